use Rattle.std.proofs.Common.{◌∙◌, sym}
use Rattle.table_files.specs.Children.{stops_at}
use Rattle.table_files.specs.Ends.{have_pair}
use Rattle.table_files.proofs.EndFacts.{first_pair}
use Rattle.table_files.proofs.transfers.TransferReader.gives_pair.Goals as goal

pub returns : goal.returns
returns c =
    let children = c.args.self.now.places.now.children in
    let from = c.as_slice.ensures ∙ c.stops_at-from.ensures in
    let to = c.as_slice-2.ensures ∙ c.stops_at-to.ensures in
    c.have_pair.ensures ∙ (λ k. have_pair (from k) (to k))
    ∙ sym (first_pair (stops_at c.args.link.origin children) (stops_at c.args.link.target children)
    c.args.link.seconds)
