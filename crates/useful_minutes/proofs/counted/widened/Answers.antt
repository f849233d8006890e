use Rattle.std.proofs.Common.{◌<◌, arith, length}
use Rattle.std.proofs.lemmas.List.{get_or-map}
use Rattle.useful_minutes.proofs.counted.widened.Goals as goal

pub returns : goal.returns
returns c l h = let inside : l < length c.args.labels = omega (arith, h) in get_or-map _ c.args.labels l 0 0 inside
