use Rattle.timetable.proofs.ListsAddedTo.{lists_of_set}
use Rattle.reversal.proofs.mirror.add.Goals as goal

pub returns-clause-rows : goal.returns-clause-rows
returns-clause-rows c =
    lists_of_set c.args.lists.now.items c.args.stop.0 c.index_mut-list.result.now c.push.new.self c.args.footpath
    c.requires c.index_mut-list.ensures.value c.in_ok-push.ensures.items
