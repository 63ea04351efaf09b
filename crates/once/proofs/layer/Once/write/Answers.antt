use Rattle.once.proofs.layer.Once.write.Goals.{in-Carried, in-Already}
use Rattle.once.proofs.layer.Once.write.Goals as goal

pub returns : goal.returns
returns g c = elim c.match-branch-2.branch [
  | in-Carried w ↦ rw (c.note.ensures, w.below-is, ← c.in_ok-below.ensures, w.in-Carried.is)
  | in-Already w ↦ rw (c.note.ensures, w.below-is, ← c.in_ok-below.ensures, w.in-Already.is)
]
