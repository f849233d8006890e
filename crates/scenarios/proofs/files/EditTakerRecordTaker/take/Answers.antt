use Rattle.std.proofs.Common.{◌+◌, ◌++◌, ◌∷◌, ◌∙◌, [], ap, map, sym}
use Rattle.std.proofs.lemmas.List.{length-map, map-append}
use Rattle.csv.specs.Records.{fields_of}
use Rattle.scenarios.specs.EditRows.{row_at}
use Rattle.scenarios.proofs.FileFacts.{edits_more, record_passes, record_refused}
use Rattle.scenarios.proofs.files.EditTakerRecordTaker.take.Goals as goal

pub returns-in_ok-add-in-Ok-clause-good : goal.returns-in_ok-add-in-Ok-clause-good
returns-in_ok-add-in-Ok-clause-good c start before at makes =
    let feed = c.args.self.now.feed.now in
    let row = row_at c.args.self.now.columns in
    let fields = fields_of c.args.row.now in
    let here = at ∙ ap (λ n. n + 2) (sym (length-map before row)) in
    let is = c.in-Ok.ensures.good in
    let name = ap (λ s. s.name) makes.1 in
    let edits = ap (λ s. s.edits ++ c.in-Ok.edit ∷ []) makes.1
    ∙ sym (edits_more feed (map row before) (row fields) c.in-Ok.edit is.1) in
    rw (map-append row before (fields ∷ [])) (
      record_passes feed (map row before) (row fields) c.args.at here makes.0 is.0,
      c.in_ok-add-in-Ok.ensures.good ∙ (λ k. record { name = name k; edits = edits k }),
    )

pub returns-in-Err-clause-fault : goal.returns-in-Err-clause-fault
returns-in-Err-clause-fault c start before after at makes =
    let feed = c.args.self.now.feed.now in
    let row = row_at c.args.self.now.columns in
    let fields = fields_of c.args.row.now in
    let here = at ∙ ap (λ n. n + 2) (sym (length-map before row)) in
    rw (map-append row before (fields ∷ after))
    (record_refused feed (map row before) (map row after) (row fields) c.args.at c.in-Err.what here makes.0
    c.in-Err.ensures.fault)
