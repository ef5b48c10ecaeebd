use Rattle.sixel_palette.proofs.palette.lloyd.moved_twice.Goals as goal

pub moved_once-requires-clause-means : goal.moved_once-requires-clause-means
moved_once-requires-clause-means c = rw c.deref.ensures.value c.in_ok-codes.ensures.means

pub moved_once-requires-2-clause-means : goal.moved_once-requires-2-clause-means
moved_once-requires-2-clause-means c = rw c.deref-2.ensures.value c.in_ok-codes.ensures.means

pub moved_once-requires-2-clause-shown : goal.moved_once-requires-2-clause-shown
moved_once-requires-2-clause-shown c = rw c.deref-3.ensures.value c.in_ok-once.ensures.shown
