use Rattle.std.proofs.Common.{◌∙◌, sym}
use Rattle.std.specs.Str.{bytes_eq}
use Rattle.table_records.proofs.MappedTests.{position-map}
use Rattle.table_records.proofs.identifiers.Identifiers.number.Goals as goal

pub returns : goal.returns
returns c = rw (← c.self.view_is) (c.get_index_of.ensures.index
    ∙ sym (position-map (λ v. v.items) (bytes_eq c.args.id.now) c.self.inside.set.keys))
