use Rattle.table_files.proofs.ChildrenFacts.{put_child}
use Rattle.table_files.proofs.children.Children.add.Goals as goal

pub returns : goal.returns
returns c = put_child c.self.inside.lists.items _ c.args.station _ c.push.new.self c.args.stop c.self.view_is c.requires
    c.index_mut-stops.ensures.value c.in_ok-push.ensures.items
