use Rattle.std.proofs.Common.{◌≡◌, ◌++◌, drop, string_bytes}
use Rattle.html_code.specs.PageParts.{fault_parts}
use Rattle.html_code.specs.Parts.{html_of}
use Rattle.html_code.proofs.faults.push_faults.Given as goal

abbrev pub invariant-loop-fault : goal.invariant-loop-fault
invariant-loop-fault l =
    string_bytes l.page ++ html_of (fault_parts l.left (drop l.fault-index l.faults))
    ≡ string_bytes l.initial.page ++ html_of (fault_parts l.initial.left l.faults)
