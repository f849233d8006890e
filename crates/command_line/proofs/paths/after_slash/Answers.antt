use Rattle.command_line.proofs.Slashes.{found_whole}
use Rattle.command_line.proofs.paths.after_slash.Goals as goal

pub loop-rest-init : goal.loop-rest-init
loop-rest-init c = found_whole c.args.path.now
