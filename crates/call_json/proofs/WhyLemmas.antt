-- Why no rule fits a call, from its parts.
use Rattle.std.proofs.Common.{◌≡◌, ◌∙◌, ◌<◌, ℕ, Bool, true, false, List, ap, get_or, length, refl, subst, sym, if◌then◌else◌}
use Rattle.std.specs.Prelude.{Option, Some, None, Ok, Err, ok_or, option_map, slice_get}
use Rattle.std.proofs.lemmas.Option.{slice_get_read}
use Rattle.serde_json.specs.Data.{Data}
use Rattle.mbe_explain.specs.declared.rules.RuleStop.{RuleStop}
use Rattle.mbe_explain.specs.Rules.{IsNearest}
use Rattle.call_messages.specs.declared.known.Known.{Known}
use Rattle.call_messages.specs.declared.unfit.Unfit.TheVariants.{Fits, Unknown}
use Rattle.call_json.specs.Rules.{all_rules, name, number_of}

pub named : (text : List ℕ) (k known : Known) (v : Data) → k ≡ known
    → v ≡ name text k.definition.name → v ≡ name text known.definition.name
named text k known v same is = is ∙ ap (λ (x : Known). name text x.definition.name) same

pub ruled : (text : List ℕ) (k known : Known) (rs items : List RuleStop) (v : Data) → k ≡ known
    → rs ≡ items → v ≡ all_rules text k.call rs → v ≡ all_rules text known.call items
ruled text k known rs items v same are is =
    is ∙ ap (λ (x : Known). all_rules text x.call rs) same ∙ ap (all_rules text known.call) are

-- the nearest is one of them
pub within : (rs : List RuleStop) (nearest : Option ℕ) (any : Bool) (n : ℕ) → IsNearest rs nearest
    → (if any then Err Fits else ok_or nearest Unknown) ≡ Ok n → n < length rs
within rs nearest true n h e = cc
within rs None false n h e = cc
within rs (Some k) false n h e =
    let same : k ≡ n = cc in
    subst (λ (m : ℕ). m < length rs) same h.0

pub numbered : (items : List RuleStop) (i n : ℕ) (r : RuleStop) → i < length items
    → r ≡ get_or items i r → n ≡ number_of r.index
    → option_map (λ (s : RuleStop). number_of s.index) (slice_get items i) ≡ Some n
numbered items i n r inside at is =
    ap (option_map (λ (s : RuleStop). number_of s.index))
    (slice_get_read items (length items) i r refl inside at) ∙ ap Some (sym is)
