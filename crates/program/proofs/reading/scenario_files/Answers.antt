use Rattle.std.proofs.Common.{◌≡◌, ◌+◌, ◌++◌, ◌∷◌, [], Ok, Some, arith, drop, map, string_bytes, subst, suc, take}
use Rattle.std.proofs.lemmas.Result.{err_from_is_err_and}
use Rattle.std.proofs.lemmas.Grind.{common_steps}
use Rattle.command_line.specs.Paths.{scenario_of}
use Rattle.program.specs.Files.{AreScenarios, IsWhyUnread, Needed}
use Rattle.program.proofs.Scenarios.{one_more}
use Rattle.program.proofs.FirstUnread.{scenario_unread, split_map}
use Rattle.program.proofs.reading.scenario_files.Goals as goal

pub returns-in_err-file-clause-unread : goal.returns-in_err-file-clause-unread
returns-in_err-file-clause-unread g c =
    let finds = g.D.Disk.finds c.args.disk.now in
    let paths = c.args.paths.now in
    let i = c.loop-path.path-index in
    let why = subst (λ path. IsWhyUnread finds (Needed path ∷ []) c.in_err-file.field-0.0) c.as_str.ensures.value
    c.in_err-file.ensures.unread in
    let exit = err_from_is_err_and c.from_residual.result c.from_residual.ensures.1 in
    rw (exit.1, exit.2)
    (scenario_unread finds (map string_bytes paths) (map string_bytes (take i paths)) (string_bytes c.path-item.result)
    (map string_bytes (drop (suc i) paths))
    c.loop-path.files.items _ (split_map string_bytes paths i c.path-item.result c.path-item.is (omega arith))
    c.loop-path.invariant.files why)

pub loop-path-preserved : goal.loop-path-preserved
loop-path-preserved g c =
    let finds = g.D.Disk.finds c.args.disk.now in
    let before = map string_bytes (take c.loop-path.path-index c.args.paths.now) in
    let items : c.push.new.self.items ≡ c.loop-path.files.items ++ c.in_ok-file.file ∷ [] =
    grind (arith, common_steps) in
    let paths : map string_bytes (take (c.loop-path.path-index + 1) c.args.paths.now)
    ≡ before ++ string_bytes c.path-item.result ∷ [] = grind (arith, common_steps) in
    let named = subst (λ path. (c.in_ok-file.file.name ≡ scenario_of path)
    × finds path (Ok (Some c.in_ok-file.file.bytes))) c.as_str.ensures.value c.in_ok-file.ensures.file in
    let more : AreScenarios finds (before ++ string_bytes c.path-item.result ∷ [])
    (c.loop-path.files.items ++ c.in_ok-file.file ∷ []) =
    one_more finds before c.loop-path.files.items (string_bytes c.path-item.result) c.in_ok-file.file
    c.loop-path.invariant.files named.0 named.1 in
    record { files = rw (paths, items) more; limit = rw items (grind (arith, common_steps)) }
