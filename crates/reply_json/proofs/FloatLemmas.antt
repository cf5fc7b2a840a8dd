-- No number in a line is a float, so its text is known.
use Rattle.std.proofs.Common.{◌≡◌, ℕ, Bool, false, List, [], ◌∷◌, refl, ap, ◌∙◌, map}
use Rattle.std.specs.Prelude.{◌||◌}
use Rattle.serde_json.specs.Data.{Data}
use Rattle.serde_json.specs.View.{items_of}
use Rattle.serde_json.specs.Written.{has_float, items_have_float}
use Rattle.bridge.specs.PrintedRanges.{read_ranges}
use Rattle.expander_model.specs.declared.fault.Fault.{Fault}
use Rattle.expander_run.specs.expander_session.Expanded.{Expanded}
use Rattle.call_json.specs.Places.{count}
use Rattle.reply_json.specs.Lines.{ends_of, expansion, fault, origin_numbers}

no_float_in : (ns : List ℕ) → items_have_float (items_of (map count ns)) ≡ false
no_float_in [] = refl
no_float_in (n ∷ ns) = no_float_in ns

pub no_float_told : (text : List ℕ) (fs : List Fault)
    → items_have_float (items_of (map (fault text) fs)) ≡ false
no_float_told text [] = refl
no_float_told text (f ∷ fs) = no_float_told text fs

none_of_three : (a b d : Bool) → a ≡ false → b ≡ false → d ≡ false
    → (a || (b || (d || false))) ≡ false
none_of_three a b d no_a no_b no_d = rw (no_a, no_b, no_d) refl

pub expansion_has_no_float : (text : List ℕ) (e : Expanded)
    → has_float (expansion text e) ≡ false
expansion_has_no_float text e =
    none_of_three (items_have_float (items_of (map (fault text) e.faults)))
    (items_have_float (items_of (map count (origin_numbers e.texts e.origins))))
    (items_have_float (items_of (map count (ends_of (read_ranges e.printed)))))
    (no_float_told text e.faults) (no_float_in (origin_numbers e.texts e.origins))
    (no_float_in (ends_of (read_ranges e.printed)))
