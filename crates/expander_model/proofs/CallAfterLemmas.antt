-- The call behind a name: by the punct that follows it.
use Rattle.std.proofs.Common.{◌≡◌, Bool, true, false, ◌&&◌, refl, sym, ap, ◌∙◌, arith}
use Rattle.std.specs.Prelude.{Option, Some, None, not}
use Rattle.std.proofs.lemmas.Bool.Decides.{nat_tests}
use Rattle.bridge.specs.Text.{is_char}
use Rattle.cfg_options.specs.small_grammar.Text.{◌>>◌}
use Rattle.tt.specs.FirstTrees.{first_punct}
use Rattle.tt.specs.Glued.{is_alone}
use Rattle.tt_data.specs.Forest.{Forest, empty, leaf, group}
use Rattle.tt_data.specs.declared.leaf.Ident.{Ident}
use Rattle.tt_data.specs.declared.leaf.Leaf.TheVariants as as_leaf
use Rattle.tt_data.specs.declared.leaf.Punct.{Punct}
use Rattle.expander_model.specs.declared.call.Call.{Call}
use Rattle.expander_model.specs.CallSteps.{bare_call, call_after, call_behind_colons, group_call}
use Rattle.expander_model.specs.Calls.{is_root}
use Rattle.cfg_options.specs.Conditions.{or_else}

-- no `::` where the first punct is no colon
no_colons : (p : Punct) (rest : Forest) → is_char ":" p ≡ false → call_behind_colons (leaf (as_leaf.Punct p) rest) ≡ None
no_colons p (leaf (as_leaf.Punct q) g) h = ap (λ b. (b && (is_char ":" q && not (is_alone p.spacing))) >> bare_call g) h
no_colons p (leaf (as_leaf.Ident i) g) h = refl
no_colons p (leaf (as_leaf.Literal l) g) h = refl
no_colons p (group d a r) h = refl
no_colons p empty h = refl

bang_no_colon : (p : Punct) → is_char "!" p ≡ true → is_char ":" p ≡ false
bang_no_colon p h = grind (arith, nat_tests)

or_other : (b : Bool) (o other : Option Call) → o ≡ None → or_else (b >> o) other ≡ other
or_other b None other h = go b
  where
    go : (t : Bool) → or_else (t >> None) other ≡ other
    go true = refl
    go false = refl
or_other b (Some x) other h = absurd (cc)

pub at_bang : (name : Ident) (mark : Punct) (after f : Forest) → first_punct f ≡ Some (mark, after) → is_char "!" mark ≡ true
    → group_call name after ≡ call_after name f
at_bang name mark after (leaf (as_leaf.Punct p) rest) e t =
    let pair : (p, rest) ≡ (mark, after) = cc in
    let same : p ≡ mark = ap (λ (x : Punct × Forest). x.0) pair in
    let behind : rest ≡ after = ap (λ (x : Punct × Forest). x.1) pair in
    let bang : is_char "!" p ≡ true = ap (is_char "!") same ∙ t in
    sym (or_other (is_root name) _ _ (no_colons p rest (bang_no_colon p bang))
    ∙ ap (λ b. b >> group_call name rest) bang ∙ ap (group_call name) behind)
at_bang name mark after (leaf (as_leaf.Ident i) rest) e t = absurd (cc)
at_bang name mark after (leaf (as_leaf.Literal l) rest) e t = absurd (cc)
at_bang name mark after (group d a r) e t = absurd (cc)
at_bang name mark after empty e t = absurd (cc)

pub at_none : (name : Ident) (mark : Punct) (after f : Forest) → first_punct f ≡ Some (mark, after) → is_char "!" mark ≡ false
    → (is_char ":" mark && is_root name) ≡ false → None ≡ call_after name f
at_none name mark after (leaf (as_leaf.Punct p) rest) e t h =
    let pair : (p, rest) ≡ (mark, after) = cc in
    let same : p ≡ mark = ap (λ (x : Punct × Forest). x.0) pair in
    let other : is_char "!" p ≡ false = ap (is_char "!") same ∙ t in
    let test : (is_char ":" p && is_root name) ≡ false = ap (λ q. is_char ":" q && is_root name) same ∙ h in
    sym (ap (or_else (is_root name >> call_behind_colons (leaf (as_leaf.Punct p) rest))) (ap (λ b. b >> group_call name rest) other)
    ∙ by_root (is_root name) (is_char ":" p) refl test)
  where
    by_root : (r c : Bool) → is_char ":" p ≡ c → (c && r) ≡ false → or_else (r >> call_behind_colons (leaf (as_leaf.Punct p) rest)) None ≡ None
    by_root false c k g = refl
    by_root true true k g = absurd (cc)
    by_root true false k g = ap (λ o. or_else o None) (no_colons p rest k)
at_none name mark after (leaf (as_leaf.Ident i) rest) e t h = absurd (cc)
at_none name mark after (leaf (as_leaf.Literal l) rest) e t h = absurd (cc)
at_none name mark after (group d a r) e t h = absurd (cc)
at_none name mark after empty e t h = absurd (cc)
