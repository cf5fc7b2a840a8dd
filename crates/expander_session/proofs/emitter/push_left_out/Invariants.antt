use Rattle.std.proofs.Common.{◌≡◌, ◌≤◌, ◌++◌, drop, length}
use Rattle.expander_session.specs.Emitting.{faults_at}
use Rattle.expander_session.proofs.emitter.push_left_out.Given as goal

abbrev pub invariant-loop-place : goal.invariant-loop-place
invariant-loop-place l =
    record {
      within : l.next ≤ length l.numbers;
      told : l.faults.items ++ faults_at (drop l.place-index l.told) (drop l.next l.numbers) ≡ l.initial.faults.items ++ faults_at l.told l.numbers;
    }
