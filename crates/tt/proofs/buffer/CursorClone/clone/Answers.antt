use Rattle.tt.proofs.buffer.CursorClone.clone.Goals as goal

pub invariant_of-result : goal.invariant_of-result
invariant_of-result c = (c.self.invariant.0, rw c.copied.ensures c.self.invariant.1, c.self.invariant.2)
