-- Options after one more.
use Rattle.std.proofs.Common.{◌≡◌, ℕ, Bool, true, false, ◌&&◌, ◌||◌, List, [], ◌∷◌, Option, Some, None, option_map, refl, sym, ap, ◌∙◌}
use Rattle.std.specs.Prelude.{not}
use Rattle.std.specs.Bool.{MatchBool}
use Rattle.std.specs.List.{list_any}
use Rattle.std.specs.List.Sorted.{IsPermutation}
use Rattle.std.proofs.lemmas.List.Sorted.{list_any-IsPermutation}
use Rattle.std.proofs.lemmas.Slice.Eq.{bytes_eq-Decides}
use Rattle.small_grammar.specs.Text.{same_text}
use Rattle.cfg_options.specs.Options.{is_option, same_value}
use Rattle.cfg_options.specs.declared.options.CfgOption.{CfgOption}

value_is : (a b : Option (List ℕ)) → same_value a b ≡ true → a ≡ b
value_is None None e = refl
value_is None (Some b) e = absurd (cc e)
value_is (Some a) None e = absurd (cc e)
value_is (Some a) (Some b) e = ap Some ((bytes_eq-Decides a b).0 e)

first_true : (a b : Bool) → (a && b) ≡ true → a ≡ true
first_true true b e = refl
first_true false b e = absurd (cc e)

second_true : (a b : Bool) → (a && b) ≡ true → b ≡ true
second_true true b e = e
second_true false b e = absurd (cc e)

-- an option that equals one that is there is there
there : (m n : List ℕ) (w v : Option (List ℕ)) (ks : List CfgOption) → list_any (is_option m w) ks ≡ true → (same_text m n && same_value w v) ≡ true → list_any (is_option n v) ks ≡ true
there m n w v ks had e =
    sym (ap (λ x. list_any (is_option x w) ks) ((bytes_eq-Decides m n).0 (first_true (same_text m n) (same_value w v) e))
    ∙ ap (λ x. list_any (is_option n x) ks) (value_is w v (second_true (same_text m n) (same_value w v) e)))
    ∙ had

kept : (b : Bool) (x : Bool) → (b ≡ true → x ≡ true) → x ≡ (b || x)
kept true x h = h refl
kept false x h = refl

pub one_more : (added : Bool) (n : List ℕ) (v : Option (List ℕ)) (k : CfgOption) (ks ns : List CfgOption)
    → MatchBool added (IsPermutation (k ∷ ks) ns) (ns ≡ ks)
    → (added ≡ false → list_any (is_option k.name (option_map (λ x. x.items) k.value)) ks ≡ true)
    → list_any (is_option n v) ns ≡ (is_option n v k || list_any (is_option n v) ks)
one_more true n v k ks ns h had = sym (list_any-IsPermutation (is_option n v) (k ∷ ks) ns h)
one_more false n v k ks ns h had =
    ap (list_any (is_option n v)) h
    ∙ kept (is_option n v k) (list_any (is_option n v) ks)
    (there k.name n (option_map (λ x. x.items) k.value) v ks (had refl))

pub had_it : (b : Bool) → not b ≡ false → b ≡ true
had_it true e = refl
had_it false e = absurd (cc e)

either_true : (a b : Bool) → b ≡ true → (a || b) ≡ true
either_true true b e = refl
either_true false b e = e

one_passes : (b : Bool) (p q : CfgOption → Bool) (k : CfgOption) (ks : List CfgOption) → p k ≡ b → ((x : CfgOption) → p x ≡ true → q x ≡ true) → (list_any p ks ≡ true → list_any q ks ≡ true)
    → (b || list_any p ks) ≡ true → (q k || list_any q ks) ≡ true
one_passes true p q k ks e pass more h = ap (λ x. x || list_any q ks) (pass k e)
one_passes false p q k ks e pass more h = either_true (q k) (list_any q ks) (more h)

-- what passes one test passes another
pub any_other : (p q : CfgOption → Bool) (ks : List CfgOption) → ((x : CfgOption) → p x ≡ true → q x ≡ true) → list_any p ks ≡ true → list_any q ks ≡ true
any_other p q [] pass h = absurd (cc h)
any_other p q (k ∷ ks) pass h = one_passes (p k) p q k ks refl pass (any_other p q ks pass) h

-- the same option, the other way round
pub turned : (a b : List ℕ) (v w : Option (List ℕ)) → (same_text a b && same_value v w) ≡ true → (same_text b a && same_value w v) ≡ true
turned a b v w e =
    let names : a ≡ b = (bytes_eq-Decides a b).0 (first_true (same_text a b) (same_value v w) e) in
    let values : v ≡ w = value_is v w (second_true (same_text a b) (same_value v w) e) in
    ap (λ x. same_text b x && same_value w v) names
    ∙ ap (λ x. same_text b b && same_value w x) values
    ∙ sym (ap (λ x. same_text x b && same_value w w) names)
    ∙ ap (λ x. same_text a b && same_value w x) (sym values)
    ∙ ap (λ x. same_text a b && same_value x v) (sym values)
    ∙ ap (λ x. same_text a b && same_value v x) values
    ∙ e
