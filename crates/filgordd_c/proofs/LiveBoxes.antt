-- A box of what a handle holds, whose type's words name no part of it.
use Rattle.std_alloc.proofs.BoxSteps.Form.{Bx}
use Rattle.bare_box.proofs.HeapBoxes.{boxed}
use Rattle.filgordd_c.specs.contracts.live.Live as lives
use Rattle.filgordd_c.proofs.live.Live.TheLaws as live_laws

abbrev pub E : Bx
E = boxed lives.the_row live_laws.the_row_laws
