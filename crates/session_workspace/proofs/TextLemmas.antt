-- The texts of a workspace, as a list. (For `find`, `forget`, `edit` and `tell`.)
use Rattle.std.proofs.Common.{◌≡◌, ◌∙◌, ℕ, suc, ◌+◌, ◌<◌, ◌≤◌, List, [], ◌∷◌, ◌++◌, length, take, drop, get_or, refl, sym, ap, subst, true, false, arith, length-append, string_bytes}
use Rattle.std.specs.Prelude.{Contains, OnErr, Result, Ok, Err, ℤ}
use Rattle.std.specs.List.{insert, remove}
use Rattle.std.proofs.Math.Seq.{get_or-append_seam}
use Rattle.std.proofs.lemmas.Grind.{common_steps}
use Rattle.std.proofs.lemmas.Slice.Eq.{bytes_eq-Decides}
use Rattle.std.proofs.lemmas.List.{take-append-drop, take-append-le, take_all, drop-append-le, drop_all, drop_more, take_more}
use Rattle.client_texts.specs.Params.{Change}
use Rattle.client_texts.specs.Texts.{Document, after_edit, with_edit, without}
use Rattle.session_workspace.specs.OpenTexts.{HaveNone, IsFirst, document_of, documents_of, is_named}
use Rattle.session_workspace.specs.declared.open_text.OpenText.{OpenText}

-- ---- lists of texts

-- without a text of this name nothing is taken away
pub without_none : (uri : List ℕ) (texts : List OpenText) → HaveNone uri texts
    → without uri (documents_of texts) ≡ documents_of texts
without_none uri [] none = refl
without_none uri (t ∷ ts) none =
    rw none.0 (ap (λ (ds : List Document). document_of t ∷ ds) (without_none uri ts none.1))

-- and nothing is changed
pub edit_none : (uri : List ℕ) (version : ℤ) (changes : List Change) (texts : List OpenText)
    → HaveNone uri texts
    → with_edit uri version changes (documents_of texts) ≡ documents_of texts
edit_none uri version changes [] none = refl
edit_none uri version changes (t ∷ ts) none =
    rw none.0 (ap (λ (ds : List Document). document_of t ∷ ds)
    (edit_none uri version changes ts none.1))

-- the first text of this name is taken away
pub without_parts : (uri : List ℕ) (front back : List OpenText) (t : OpenText) → HaveNone uri front
    → is_named uri t ≡ true
    → without uri (documents_of (front ++ t ∷ back)) ≡ documents_of (front ++ back)
without_parts uri [] back t none named = rw named refl
without_parts uri (f ∷ fs) back t none named =
    rw none.0 (ap (λ (ds : List Document). document_of f ∷ ds)
    (without_parts uri fs back t none.1 named))

-- and changed
pub edit_parts : (uri : List ℕ) (version : ℤ) (changes : List Change) (front back : List OpenText)
    (t new : OpenText) → HaveNone uri front → is_named uri t ≡ true
    → document_of new ≡ after_edit version changes (document_of t)
    → with_edit uri version changes (documents_of (front ++ t ∷ back))
    ≡ documents_of (front ++ new ∷ back)
edit_parts uri version changes [] back t new none named is =
    rw named (ap (λ (d : Document). d ∷ documents_of back) (sym is))
edit_parts uri version changes (f ∷ fs) back t new none named is =
    rw none.0 (ap (λ (ds : List Document). document_of f ∷ ds)
    (edit_parts uri version changes fs back t new none.1 named is))

-- texts are those before one, that one, and those behind it
pub parts_of : (uri : List ℕ) (texts : List OpenText) (i : ℕ) (first : IsFirst uri texts i)
    → texts ≡ take i texts ++ first.text ∷ drop (i + 1) texts
parts_of uri texts i first =
    sym (take-append-drop i texts) ∙ ap (λ (ts : List OpenText). take i texts ++ ts) first.is

-- one text more that has not this name
none-append : (uri : List ℕ) (texts : List OpenText) (t : OpenText) → HaveNone uri texts
    → is_named uri t ≡ false → HaveNone uri (texts ++ t ∷ [])
none-append uri [] t none other = (other, tt)
none-append uri (x ∷ xs) t none other = (none.0, none-append uri xs t none.1 other)

pub none_more : (uri : List ℕ) (texts : List OpenText) (i : ℕ) (t : OpenText) → i < length texts
    → t ≡ get_or texts i t → HaveNone uri (take i texts) → is_named uri t ≡ false
    → HaveNone uri (take (i + 1) texts)
none_more uri texts i t within is none other =
    rw (take_more texts i t within) (rw (← is) (none-append uri (take i texts) t none other))

-- the first text of a name is at an index, where those before it have other names
pub first_at : (uri : List ℕ) (texts : List OpenText) (i : ℕ) (t : OpenText) → i < length texts
    → t ≡ get_or texts i t → HaveNone uri (take i texts) → is_named uri t ≡ true
    → IsFirst uri texts i
first_at uri texts i t within is none named = record {
  text = t;
  within = within;
  is = drop_more texts i t within
      ∙ ap (λ (u : OpenText). u ∷ drop (i + 1) texts) (sym is);
  named = named;
  before = none;
}

-- the text of this index, where the list goes on with it there
pub text_at : (texts : List OpenText) (i : ℕ) (t : OpenText) (uri : List ℕ)
    (first : IsFirst uri texts i) → i < length texts → t ≡ get_or texts i t → t ≡ first.text
text_at texts i t uri first within is =
    let split : drop i texts ≡ get_or texts i t ∷ drop (i + 1) texts = drop_more texts i t within in
    let both : get_or texts i t ∷ drop (i + 1) texts ≡ first.text ∷ drop (i + 1) texts =
    sym split ∙ first.is in
    is ∙ ap (λ (ts : List OpenText). get_or ts 0 t) both

-- a text is put where the first of a name was
pub put_back : (uri : List ℕ) (texts : List OpenText) (i : ℕ) (new : OpenText)
    (first : IsFirst uri texts i)
    → insert (remove texts i) i new ≡ take i texts ++ new ∷ drop (i + 1) texts
put_back uri texts i new first =
    let within : i < length texts = first.within in
    let enough : i ≤ length (take i texts) = grind (arith, common_steps) in
    let short : length (take i texts) ≤ i = grind (arith, common_steps) in
    let next : suc i ≡ i + 1 = omega arith in
    let whole : take i (take i texts) ≡ take i texts = take_all i (take i texts) short in
    let front : take i (remove texts i) ≡ take i texts =
    take-append-le i (take i texts) (drop (suc i) texts) enough ∙ whole in
    let back : drop i (remove texts i) ≡ drop (i + 1) texts =
    drop-append-le i (take i texts) (drop (suc i) texts) enough
    ∙ ap (λ (ts : List OpenText). ts ++ drop (suc i) texts) (drop_all i (take i texts) short)
    ∙ ap (λ (n : ℕ). drop n texts) next in
    rw (front, back) refl

-- a text between others is among them
pub among : (front back : List OpenText) (t : OpenText) → Contains (front ++ t ∷ back) t
among front back t =
    let more : length (front ++ t ∷ back) ≡ length front + suc (length back) =
    length-append front (t ∷ back) in
    (length front, omega arith, get_or-append_seam front t back t)

-- and so is the first of a name
pub first_among : (uri : List ℕ) (texts : List OpenText) (i : ℕ) (first : IsFirst uri texts i)
    → Contains texts first.text
first_among uri texts i first =
    subst (λ (ts : List OpenText). Contains ts first.text) (sym (parts_of uri texts i first))
    (among (take i texts) (drop (i + 1) texts) first.text)

-- a text that is named so has the name
pub name_of_named : (uri : List ℕ) (t : OpenText) → is_named uri t ≡ true → string_bytes t.uri ≡ uri
name_of_named uri t named = sym ((bytes_eq-Decides uri (string_bytes t.uri)).0 named)

-- ---- what holds whatever the result is

pub on_err : {A B : Type 0} (r : Result A B) (P : Type 0) → P → OnErr r P
on_err (Ok x) P p = tt
on_err (Err e) P p = p
