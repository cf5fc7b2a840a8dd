-- Lists side by side, where no call crosses their border.
use Rattle.std.proofs.Common.{◌≡◌, ◌≢◌, refl, sym, ap, ◌∙◌, Bool, true, false, inl, inr}
use Rattle.std.specs.Prelude.{Option, Some, None, ◌⊎◌}
use Rattle.tt_data.specs.Forest.{Forest, empty, leaf, group, joined}
use Rattle.tt_data.proofs.ForestLemmas.{joined_assoc}
use Rattle.tt_data.specs.declared.delimiter.Delimiter.{Delimiter}
use Rattle.tt_data.specs.declared.leaf.Ident.{Ident}
use Rattle.tt_data.specs.declared.leaf.Leaf.TheVariants as as_leaf
use Rattle.tt_data.specs.declared.leaf.Punct.{Punct}
use Rattle.expander_model.specs.declared.call.Call.{Call}
use Rattle.expander_model.specs.CallSteps.{bare_call, call_behind_colons, crate_call, call_at}
use Rattle.expander_model.specs.Calls.{is_colons, is_root}
use Rattle.cfg_options.specs.Conditions.{or_else}
use Rattle.expander_session.specs.Laws.{IsParted}
use Rattle.small_grammar.specs.Text.{◌>>◌}
use Rattle.bridge.specs.Text.{is_char, is_visible}
use Rattle.expander_scope.proofs.CallLemmas.{is_bare, is_of_crate}
use Rattle.expander.proofs.PieceEndLemmas.{behind_same, one_group, split_one}

-- ---- tests before a call

no_call : (t : Bool) (o : Option Call) → o ≡ None → (t >> o) ≡ None
no_call true o e = e
no_call false o e = refl

still_none : (t u : Bool) (x y : Call) → (t >> (u >> Some x)) ≡ None → (t >> (u >> Some y)) ≡ None
still_none true true x y e = absurd (cc e)
still_none true false x y e = refl
still_none false u x y e = refl

behind_test : (t : Bool) (o q : Option Call) → (o ≡ None → q ≡ None) → (t >> o) ≡ None → (t >> q) ≡ None
behind_test true o q h e = h e
behind_test false o q h e = refl

neither : (a b : Option Call) → or_else a b ≡ None → (a ≡ None) × (b ≡ None)
neither None b e = (refl, e)
neither (Some x) b e = absurd (cc e)

both_none : (a b : Option Call) → a ≡ None → b ≡ None → or_else a b ≡ None
both_none a b p q = ap (λ o. or_else o b) p ∙ q

at_none : (f g : Forest) → (crate_call f ≡ None → crate_call g ≡ None) → (bare_call f ≡ None → bare_call g ≡ None) → call_at f ≡ None → call_at g ≡ None
at_none f g crate one e =
    let h = neither (crate_call f) (bare_call f) e in
    both_none (crate_call g) (bare_call g) (crate h.0) (one h.1)

-- ---- behind a group

module _ (d : Delimiter) (inside rest : Forest) where
  -- trees, and that group
  abbrev to_group : Forest → Forest
  to_group f = joined f (group d inside empty)

  group_bare : (f : Forest) → bare_call (to_group f) ≡ None → bare_call (joined (to_group f) rest) ≡ None
  group_bare (leaf (as_leaf.Ident i) (leaf (as_leaf.Punct p) (group k a f))) e = still_none (is_char "!" p) (is_visible k.kind) _ _ e
  group_bare (leaf (as_leaf.Ident i) (leaf (as_leaf.Punct p) (leaf l f))) e = no_call (is_char "!" p) None refl
  group_bare (leaf (as_leaf.Ident i) (leaf (as_leaf.Punct p) empty)) e = still_none (is_char "!" p) (is_visible d.kind) _ _ e
  group_bare (leaf (as_leaf.Ident i) (leaf (as_leaf.Ident j) f)) e = refl
  group_bare (leaf (as_leaf.Ident i) (leaf (as_leaf.Literal j) f)) e = refl
  group_bare (leaf (as_leaf.Ident i) (group k a f)) e = refl
  group_bare (leaf (as_leaf.Ident i) empty) e = refl
  group_bare (leaf (as_leaf.Punct p) f) e = refl
  group_bare (leaf (as_leaf.Literal p) f) e = refl
  group_bare (group k a f) e = refl
  group_bare empty e = refl

  group_colons : (f : Forest) → call_behind_colons (to_group f) ≡ None → call_behind_colons (joined (to_group f) rest) ≡ None
  group_colons (leaf (as_leaf.Punct p) (leaf (as_leaf.Punct q) f)) e =
      behind_test (is_colons p q) (bare_call (to_group f)) (bare_call (joined (to_group f) rest)) (group_bare f) e
  group_colons (leaf (as_leaf.Punct p) (leaf (as_leaf.Ident j) f)) e = refl
  group_colons (leaf (as_leaf.Punct p) (leaf (as_leaf.Literal j) f)) e = refl
  group_colons (leaf (as_leaf.Punct p) (group k a f)) e = refl
  group_colons (leaf (as_leaf.Punct p) empty) e = refl
  group_colons (leaf (as_leaf.Ident i) f) e = refl
  group_colons (leaf (as_leaf.Literal i) f) e = refl
  group_colons (group k a f) e = refl
  group_colons empty e = refl

  group_crate : (f : Forest) → crate_call (to_group f) ≡ None → crate_call (joined (to_group f) rest) ≡ None
  group_crate (leaf (as_leaf.Ident i) f) e =
      behind_test (is_root i) (call_behind_colons (to_group f)) (call_behind_colons (joined (to_group f) rest)) (group_colons f) e
  group_crate (leaf (as_leaf.Punct i) f) e = refl
  group_crate (leaf (as_leaf.Literal i) f) e = refl
  group_crate (group k a f) e = refl
  group_crate empty e = refl

  -- what is left of trees and the group ends with it
  group_last : (f a b : Forest) → to_group f ≡ joined a b → b ≢ empty → (g : Forest) × (b ≡ to_group g)
  group_last f a b e some = elim (split_one (group d inside empty) (one_group d inside) f a b e) [
    | inl h ↦ absurd (some h)
    | inr h ↦
        (h.0, behind_same a b (to_group h.0) (sym e ∙ ap to_group h.1 ∙ joined_assoc a h.0 (group d inside empty)))
  ]

  pub parted_behind_group : (f : Forest) → IsParted (to_group f) rest
  parted_behind_group f = record {
    calls = λ a b e some none.
        let g : (g : Forest) × (b ≡ to_group g) = group_last f a b e some in
        ap (λ x. call_at (joined x rest)) g.1
        ∙ at_none (to_group g.0) (joined (to_group g.0) rest) (group_crate g.0) (group_bare g.0) (ap call_at (sym g.1) ∙ none);
    colons = λ a b e some none.
        let g : (g : Forest) × (b ≡ to_group g) = group_last f a b e some in
        ap (λ x. call_behind_colons (joined x rest)) g.1 ∙ group_colons g.0 (ap call_behind_colons (sym g.1) ∙ none);
  }

-- ---- before a call

-- no `::` is at the end
abbrev pub EndsWithoutColons : Forest → Type 0
EndsWithoutColons f = (a : Forest) (p q : Punct) → f ≡ joined a (leaf (as_leaf.Punct p) (leaf (as_leaf.Punct q) empty)) → is_colons p q ≡ false

without_behind : (f a b : Forest) → f ≡ joined a b → EndsWithoutColons f → EndsWithoutColons b
without_behind f a b is h x p q e = h (joined a x) p q (is ∙ ap (joined a) e ∙ sym (joined_assoc a x (leaf (as_leaf.Punct p) (leaf (as_leaf.Punct q) empty))))

module _ (i : Ident) (rest : Forest) where
  -- trees, and a name
  abbrev to_name : Forest → Forest
  to_name f = joined f (leaf (as_leaf.Ident i) rest)

  name_bare : (f : Forest) → f ≢ empty → bare_call f ≡ None → bare_call (to_name f) ≡ None
  name_bare (leaf (as_leaf.Ident j) (leaf (as_leaf.Punct p) (group k a f))) some e = still_none (is_char "!" p) (is_visible k.kind) _ _ e
  name_bare (leaf (as_leaf.Ident j) (leaf (as_leaf.Punct p) (leaf l f))) some e = no_call (is_char "!" p) None refl
  name_bare (leaf (as_leaf.Ident j) (leaf (as_leaf.Punct p) empty)) some e = no_call (is_char "!" p) None refl
  name_bare (leaf (as_leaf.Ident j) (leaf (as_leaf.Ident k) f)) some e = refl
  name_bare (leaf (as_leaf.Ident j) (leaf (as_leaf.Literal k) f)) some e = refl
  name_bare (leaf (as_leaf.Ident j) (group k a f)) some e = refl
  name_bare (leaf (as_leaf.Ident j) empty) some e = refl
  name_bare (leaf (as_leaf.Punct p) f) some e = refl
  name_bare (leaf (as_leaf.Literal p) f) some e = refl
  name_bare (group k a f) some e = refl
  name_bare empty some e = absurd (some refl)

  name_colons : (f : Forest) → EndsWithoutColons f → call_behind_colons f ≡ None → call_behind_colons (to_name f) ≡ None
  name_colons (leaf (as_leaf.Punct p) (leaf (as_leaf.Punct q) empty)) h e =
      ap (λ t. t >> bare_call (leaf (as_leaf.Ident i) rest)) (h empty p q refl)
  name_colons (leaf (as_leaf.Punct p) (leaf (as_leaf.Punct q) (leaf l f))) h e =
      behind_test (is_colons p q) (bare_call (leaf l f)) (bare_call (to_name (leaf l f))) (name_bare (leaf l f) (λ x. cc)) e
  name_colons (leaf (as_leaf.Punct p) (leaf (as_leaf.Punct q) (group k a f))) h e =
      behind_test (is_colons p q) (bare_call (group k a f)) (bare_call (to_name (group k a f))) (name_bare (group k a f) (λ x. cc)) e
  name_colons (leaf (as_leaf.Punct p) (leaf (as_leaf.Ident j) f)) h e = refl
  name_colons (leaf (as_leaf.Punct p) (leaf (as_leaf.Literal j) f)) h e = refl
  name_colons (leaf (as_leaf.Punct p) (group k a f)) h e = refl
  name_colons (leaf (as_leaf.Punct p) empty) h e = refl
  name_colons (leaf (as_leaf.Ident j) f) h e = refl
  name_colons (leaf (as_leaf.Literal j) f) h e = refl
  name_colons (group k a f) h e = refl
  name_colons empty h e = refl

  name_crate : (f : Forest) → f ≢ empty → EndsWithoutColons f → crate_call f ≡ None → crate_call (to_name f) ≡ None
  name_crate (leaf (as_leaf.Ident j) f) some h e =
      behind_test (is_root j) (call_behind_colons f) (call_behind_colons (to_name f))
      (name_colons f (without_behind (leaf (as_leaf.Ident j) f) (leaf (as_leaf.Ident j) empty) f refl h)) e
  name_crate (leaf (as_leaf.Punct j) f) some h e = refl
  name_crate (leaf (as_leaf.Literal j) f) some h e = refl
  name_crate (group k a f) some h e = refl
  name_crate empty some h e = absurd (some refl)

  parted_before_name : (front : Forest) → EndsWithoutColons front → IsParted front (leaf (as_leaf.Ident i) rest)
  parted_before_name front h = record {
    calls = λ a b e some.
        let k : EndsWithoutColons b = without_behind front a b e h in
        at_none b (to_name b) (name_crate b some k) (name_bare b some);
    colons = λ a b e some. name_colons b (without_behind front a b e h);
  }

either_call : (a b : Option Call) (c : Call) → or_else a b ≡ Some c → (a ≡ Some c) ⊎ (b ≡ Some c)
either_call None b c e = inr e
either_call (Some x) b c e = inl e

-- a call begins with a name
call_name : (f : Forest) (c : Call) → call_at f ≡ Some c → (i : Ident) × (rest : Forest) × (f ≡ leaf (as_leaf.Ident i) rest)
call_name f c e = elim (either_call (crate_call f) (bare_call f) c e) [
  | inl h ↦ let k = is_of_crate f c h in (k.crate, k.after, k.is)
  | inr h ↦ let k = is_bare f c h in (c.name, leaf (as_leaf.Punct k.bang) (group k.brackets c.argument c.rest), k.is)
]

pub parted_before_call : (front rest : Forest) (c : Call) → call_at rest ≡ Some c → EndsWithoutColons front → IsParted front rest
parted_before_call front rest c e h =
    let k : (i : Ident) × (r : Forest) × (rest ≡ leaf (as_leaf.Ident i) r) = call_name rest c e in
    rw (k.2) (parted_before_name k.0 k.1 front h)
