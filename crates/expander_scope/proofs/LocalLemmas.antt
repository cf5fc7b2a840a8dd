-- The definitions of the lists around a place.
use Rattle.std.proofs.Common.{Bor, ◌≡◌, ◌⊎◌, inl, inr, ◌≤◌, ◌<◌, ◌+◌, ◌-◌, ◌++◌, arith, drop, take, length, length-append, ℕ, zero, suc, List, [], ◌∷◌, map, cond, refl, sym, ap, subst, ◌∙◌, Bool, true, false}
use Rattle.std.specs.Prelude.{All, IfSome, Option, Some, None, find, option_map, unwrap_or}
use Rattle.std.proofs.lemmas.List.{length-drop, take-append-drop}
use Rattle.std.proofs.Math.Seq.{drop-append_seam}
use Rattle.std.specs.Option.{option_copied}
use Rattle.std.specs.Global.{Global}
use Rattle.std.specs.declared.rc.Rc.{Rc}
use Rattle.expander_scope.specs.declared.macro_def.MacroDef.{MacroDef}
use Rattle.std.specs.Rc.{rc_value}
use Rattle.std.proofs.lemmas.List.Elements.{All-drop, All-head, All-tail}
use Rattle.small_grammar.specs.Text.{same_text}
use Rattle.tt_data.specs.Forest.{Forest}
use Rattle.expander_scope.specs.MacroDefs.{definition_in}
use Rattle.expander_model.specs.Definitions.{Definition, definition_of, nearest}
use Rattle.expander_model.specs.Held.{Numbered, unnumbered}
use Rattle.expander_scope.specs.LocalEntries.{Local}
use Rattle.expander_scope.specs.Outcomes.{numbered_of_known}

abbrev known : Local → Numbered
known e = numbered_of_known (rc_value e.1)

abbrev pub Named : Local → Type 0
Named e = e.0 ≡ (known e).definition.name.sym

abbrev pub OfList : Local → Type 0
OfList e = (rc_value e.1).number ≡ 0

-- what a name finds among them
pub found_is : (es : List Local) (name : List ℕ) → All Named es → All OfList es
    → option_map known (find (λ e. same_text e.0 name) es) ≡ option_map unnumbered (nearest (map (λ e. (known e).definition) es) name)
found_is [] name named of_lists = refl
found_is (e ∷ es) name named of_lists =
    ap (λ text. option_map known (cond (same_text text name) (Some e) (find (λ x. same_text x.0 name) es))) (All-head Named e es named)
    ∙ go (same_text (known e).definition.name.sym name) (found_is es name (All-tail Named e es named) (All-tail OfList e es of_lists))
  where
    go : (b : Bool) → option_map known (find (λ x. same_text x.0 name) es) ≡ option_map unnumbered (nearest (map (λ x. (known x).definition) es) name)
        → option_map known (cond b (Some e) (find (λ x. same_text x.0 name) es))
        ≡ option_map unnumbered (cond b (Some (known e).definition) (nearest (map (λ x. (known x).definition) es) name))
    go true later = ap (λ n. Some (record { number = n; definition = (known e).definition })) (All-head OfList e es of_lists)
    go false later = later

-- it has what all of them have
pub found_has : (P : Local → Type 0) (q : Local → Bool) (es : List Local) (e : Local) → All P es → find q es ≡ Some e → P e
found_has P q [] e all is = absurd (cc is)
found_has P q (x ∷ es) e all is = go (found_has P q es e (All-tail P x es all)) (q x) is
  where
    go : (find q es ≡ Some e → P e) → (b : Bool) → cond b (Some x) (find q es) ≡ Some e → P e
    go later true is = let same : x ≡ e = cc in subst P same (All-head P x es all)
    go later false is = later is

-- ---- borrowed values

pub copied_known : (r : Option (Bor (Rc MacroDef Global))) → option_map (λ k. numbered_of_known (rc_value k.now)) r ≡ option_map (λ v. numbered_of_known (rc_value v)) (option_copied r)
copied_known None = refl
copied_known (Some b) = refl

known_there : (o : Option Local) → option_map (λ v. numbered_of_known (rc_value v)) (option_map (λ (e : Local). e.1) o) ≡ option_map known o
known_there None = refl
known_there (Some e) = refl

pub copied_is : (r : Option (Bor (Rc MacroDef Global))) (es : List Local) (name : List ℕ) → option_copied r ≡ option_map (λ (e : Local). e.1) (find (λ e. same_text e.0 name) es)
    → All Named es → All OfList es → option_map (λ k. numbered_of_known (rc_value k.now)) r ≡ option_map unnumbered (nearest (map (λ e. (known e).definition) es) name)
copied_is r es name same named of_lists =
    copied_known r ∙ ap (option_map (λ v. numbered_of_known (rc_value v))) same ∙ known_there (find (λ e. same_text e.0 name) es) ∙ found_is es name named of_lists

pub copied_has : (P : Rc MacroDef Global → Type 0) (r : Option (Bor (Rc MacroDef Global))) (o : Option Local) → option_copied r ≡ option_map (λ (e : Local). e.1) o
    → ((e : Local) → o ≡ Some e → P e.1) → IfSome r (λ k. P k.now)
copied_has P None o same h = tt
copied_has P (Some b) None same h = absurd (cc same)
copied_has P (Some b) (Some e) same h = let is : e.1 ≡ b.now = cc same in subst P is (h e refl)

-- ---- cut back

le_or : (a b : ℕ) → (a ≤ b) ⊎ (b < a)
le_or zero b = inl (omega arith)
le_or (suc a) zero = inr (omega arith)
le_or (suc a) (suc b) = elim (le_or a b) [ inl h ↦ inl (omega (arith, h)) | inr h ↦ inr (omega (arith, h)) ]

-- what is left once it is cut back to some length, has what all had
pub cut_has : {X : Type 0} (P : X → Type 0) (old new : List X) (n : ℕ) → ((front back : List X) → old ≡ front ++ back → length back ≡ n → new ≡ back)
    → (length old ≤ n → new ≡ old) → All P old → All P new
cut_has P old new n split short all = elim (le_or (length old) n) [
  | inl less ↦ subst (All P) (sym (short less)) all
  | inr more ↦ subst (All P)
      (sym (split (take (length old - n) old) (drop (length old - n) old) (sym (take-append-drop (length old - n) old)) (length-drop (length old - n) old ∙ omega (arith, more))))
      (All-drop P (length old - n) old all)
]

drop_mapped : {X Y : Type 0} (f : X → Y) (n : ℕ) (xs : List X) → map f (drop n xs) ≡ drop n (map f xs)
drop_mapped f zero xs = refl
drop_mapped f (suc n) [] = refl
drop_mapped f (suc n) (x ∷ xs) = drop_mapped f n xs

mapped_length : (es : List Local) → length (map (λ e. (known e).definition) es) ≡ length es
mapped_length [] = refl
mapped_length (e ∷ es) = ap suc (mapped_length es)

-- definitions that are cut back to these
pub cut_definitions : (old new : List Local) (front back : List Definition) → ((xs ys : List Local) → old ≡ xs ++ ys → length ys ≡ length back → new ≡ ys)
    → map (λ e. (known e).definition) old ≡ front ++ back → map (λ e. (known e).definition) new ≡ back
cut_definitions old new front back split are =
    let n : ℕ = length front in
    let counted : length old ≡ length front + length back = sym (mapped_length old) ∙ ap length are ∙ length-append front back in
    let rest : new ≡ drop n old = split (take n old) (drop n old) (sym (take-append-drop n old)) (length-drop n old ∙ omega (arith, counted)) in
    ap (map (λ e. (known e).definition)) rest ∙ drop_mapped (λ e. (known e).definition) n old ∙ ap (drop n) are ∙ drop-append_seam front back

-- ---- the definition of a list that was made

of_some : (o : Option Definition) (d other : Definition) → o ≡ Some d → unwrap_or o other ≡ d
of_some None d other e = absurd (cc e)
of_some (Some x) d other e = let is : x ≡ d = cc e in is

pub known_as : (k : MacroDef) (piece : Forest) (d : Definition) → k.number ≡ 0 → k.tree.inner ≡ piece → definition_of piece ≡ Some d → numbered_of_known k ≡ unnumbered d
known_as k piece d number tree is = λ i. record {
  number = number i;
  definition = (ap definition_in tree ∙ of_some (definition_of piece) d _ is) i;
}
