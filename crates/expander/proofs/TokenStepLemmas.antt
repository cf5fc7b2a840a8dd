-- The tokens that the first events of a text are read from.
use Rattle.std.proofs.Common.{◌≡◌, ℕ, ◌+◌, Bool, true, false, ◌&&◌, not, List, [], ◌∷◌, ◌++◌, append_assoc, append-nil, length, map, refl, sym, ap, subst, ◌∙◌, if◌then◌else◌}
use Rattle.std.proofs.lemmas.List.Elements.{All-cons, All-nil}
use Rattle.std.proofs.lemmas.List.{map-append}
use Rattle.rustc_lexer.specs.declared.token.DocStyle.TheVariants.{Outer, Inner}
use Rattle.tt_data.specs.Walk.{Step, at_leaf, closes, opens}
use Rattle.tt_data.specs.declared.leaf.Leaf.{Leaf}
use Rattle.tt_data.specs.declared.leaf.Leaf.TheVariants as as_leaf
use Rattle.tt_data.specs.declared.leaf.Spacing.{Spacing}
use Rattle.tt_data.specs.declared.leaf.Spacing.TheVariants.{Alone, Joint}
use Rattle.tt_data.specs.declared.span.TextRange.{TextRange}
use Rattle.bridge.specs.Parts.{starts_with_mark, steps_before}
use Rattle.bridge.specs.Printing.{step_span}
use Rattle.bridge.specs.Reading.{PlacedToken, TextStep, bad, range_of, step, written_at}
use Rattle.bridge.specs.Text.{is_punct}
use Rattle.bridge.specs.TokenSteps.{mark_leaf, class_of, spacing_before, steps_of, steps_of_class}
use Rattle.expander.specs.PieceTokens.{AreBlank, is_blank_kind}
use Rattle.expander.proofs.TokenFormLemmas.{Form, blank, by_form, closing, doc, form_steps, is_mark_form, mark, name, neither, nothing_is_blank, opening, quoted_name, value}
use Rattle.expander.proofs.TokenRowLemmas.{InRow, end_from, sort_before}

-- ---- steps

abbrev pub starts_at : Step → ℕ
starts_at s = (step_span s).range.start

abbrev pub stops_at : Step → ℕ
stops_at s = (step_span s).range.«end»

-- a `;` or a closing bracket
abbrev pub is_end : Step → Bool
is_end (at_leaf l) = is_punct ";" l
is_end (opens kind span) = false
is_end (closes kind span) = true

-- a punct of this spacing, and any other leaf as it is
abbrev pub with_spacing : Spacing → Leaf → Leaf
with_spacing spacing (as_leaf.Punct p) = as_leaf.Punct (record p { spacing = spacing })
with_spacing spacing l = l

-- a `;` of this spacing, and any other step as it is
abbrev pub spaced : Spacing → Step → Step
spaced spacing (at_leaf l) = at_leaf (if is_punct ";" l then with_spacing spacing l else l)
spaced spacing (opens kind span) = opens kind span
spaced spacing (closes kind span) = closes kind span

abbrev last_of : Step → List Step → Step
last_of s [] = s
last_of s (t ∷ more) = last_of t more

-- the last of them of this spacing
abbrev spaced_last : Spacing → Step → List Step → List Step
spaced_last spacing s [] = spaced spacing s ∷ []
spaced_last spacing s (t ∷ more) = s ∷ spaced_last spacing t more

-- none but the last of them is an end
abbrev is_quiet : Step → List Step → Bool
is_quiet s [] = true
is_quiet s (t ∷ more) = not (is_end s) && is_quiet t more

-- ---- what one token is read as

-- steps that a token is read as before others: they start and stop where it does
record AreSteps (t : PlacedToken) (after : List PlacedToken) (read : List PlacedToken → List TextStep) (s : Step) (more : List Step) : Type 0 where
  are : read after ≡ step s ∷ map step more
  starts : starts_at s ≡ t.start
  stops : stops_at (last_of s more) ≡ t.start + length t.text
  quiet : is_quiet s more ≡ true
  -- before others the same, but for the spacing of an end
  elsewhere : (others : List PlacedToken) → (is_end (last_of s more) ≡ false → spacing_before others ≡ spacing_before after)
      → read others ≡ map step (spaced_last (spacing_before others) s more)

mark_elsewhere : (c : ℕ) (t : PlacedToken) (after others : List PlacedToken)
    → (is_end (at_leaf (mark_leaf c (spacing_before after) (written_at (range_of t)))) ≡ false → spacing_before others ≡ spacing_before after)
    → form_steps (mark c) t others ≡ map step (spaced (spacing_before others) (at_leaf (mark_leaf c (spacing_before after) (written_at (range_of t)))) ∷ [])
mark_elsewhere c t after others h = go (is_punct ";" (mark_leaf c (spacing_before after) (written_at (range_of t)))) h
  where
    go : (b : Bool) → (b ≡ false → spacing_before others ≡ spacing_before after)
        → step (at_leaf (mark_leaf c (spacing_before others) (written_at (range_of t)))) ∷ []
        ≡ step (at_leaf (if b then with_spacing (spacing_before others) (mark_leaf c (spacing_before after) (written_at (range_of t))) else mark_leaf c (spacing_before after) (written_at (range_of t)))) ∷ []
    go true k = refl
    go false k = ap (λ spacing. step (at_leaf (mark_leaf c spacing (written_at (range_of t)))) ∷ []) (k refl)

-- a token is read as nothing, as steps, or as what cannot be read
form_cases : (form : Form) (t : PlacedToken) (after : List PlacedToken) (X : Type 0) → (form_steps form t after ≡ [] → X)
    → ((s : Step) (more : List Step) → AreSteps t after (form_steps form t) s more → X) → ((range : TextRange) → form_steps form t after ≡ bad range ∷ [] → X) → X
form_cases blank t after X nothing steps fault = nothing refl
form_cases (name raw) t after X nothing steps fault = steps _ [] (record { are = refl; starts = refl; stops = refl; quiet = refl; elsewhere = λ others h. refl })
form_cases (mark c) t after X nothing steps fault = steps _ [] (record { are = refl; starts = refl; stops = refl; quiet = refl; elsewhere = mark_elsewhere c t after })
form_cases (opening k) t after X nothing steps fault = steps _ [] (record { are = refl; starts = refl; stops = refl; quiet = refl; elsewhere = λ others h. refl })
form_cases (closing k) t after X nothing steps fault = steps _ [] (record { are = refl; starts = refl; stops = refl; quiet = refl; elsewhere = λ others h. refl })
form_cases quoted_name t after X nothing steps fault = steps _ (_ ∷ []) (record { are = refl; starts = refl; stops = refl; quiet = refl; elsewhere = λ others h. refl })
form_cases (doc Outer is_block) t after X nothing steps fault =
    steps _ (_ ∷ _ ∷ _ ∷ _ ∷ _ ∷ []) (record { are = refl; starts = refl; stops = refl; quiet = refl; elsewhere = λ others h. refl })
form_cases (doc Inner is_block) t after X nothing steps fault =
    steps _ (_ ∷ _ ∷ _ ∷ _ ∷ _ ∷ _ ∷ []) (record { are = refl; starts = refl; stops = refl; quiet = refl; elsewhere = λ others h. refl })
form_cases (value f suffix_start) t after X nothing steps fault = steps _ [] (record { are = refl; starts = refl; stops = refl; quiet = refl; elsewhere = λ others h. refl })
form_cases neither t after X nothing steps fault = fault _ refl

sort_cases : (t : PlacedToken) (after : List PlacedToken) (X : Type 0) → (steps_of_class (class_of t.kind) t after ≡ [] → X)
    → ((s : Step) (more : List Step) → AreSteps t after (steps_of_class (class_of t.kind) t) s more → X) → ((range : TextRange) → steps_of_class (class_of t.kind) t after ≡ bad range ∷ [] → X) → X
sort_cases t after X =
    by_form (λ read is_one. (read t after ≡ [] → X) → ((s : Step) (more : List Step) → AreSteps t after (read t) s more → X) → ((range : TextRange) → read t after ≡ bad range ∷ [] → X) → X)
    (λ form. form_cases form t after X) t.kind

-- where tokens are read as nothing the first of them is no punct
pub no_mark : (ts : List PlacedToken) → steps_of ts ≡ [] → spacing_before ts ≡ Alone
no_mark [] e = refl
no_mark (t ∷ ts) e = by_form (λ read is_one. read t ts ++ steps_of ts ≡ [] → (if is_one then Joint else Alone) ≡ Alone) go t.kind e
  where
    go : (form : Form) → form_steps form t ts ++ steps_of ts ≡ [] → (if is_mark_form form then Joint else Alone) ≡ Alone
    go blank h = refl
    go (name raw) h = refl
    go (mark c) h = absurd (cc h)
    go (opening k) h = refl
    go (closing k) h = refl
    go quoted_name h = refl
    go (doc style is_block) h = refl
    go (value f suffix_start) h = refl
    go neither h = refl

-- ---- the tokens of the first steps

-- of what tokens are read as, the steps of the first of them and those behind
peel : (s : Step) (more xs : List Step) (x : Step) (ys : List Step) (tail : List TextStep) (X : Type 0) → is_quiet s more ≡ true → (is_end x ≡ false → ys ≡ [])
    → step s ∷ map step more ++ tail ≡ map step (xs ++ x ∷ ys)
    → ((zs : List Step) → xs ≡ s ∷ more ++ zs → tail ≡ map step (zs ++ x ∷ ys) → X)
    → (((spacing : Spacing) → spaced_last spacing s more ≡ xs ++ spaced spacing x ∷ []) → last_of s more ≡ x → tail ≡ map step ys → X) → X
peel s [] [] x ys tail X quiet h e longer whole =
    let same : s ≡ x = cc in
    whole (λ spacing. ap (λ (y : Step). spaced spacing y ∷ []) same) same (cc)
peel s [] (z ∷ xs) x ys tail X quiet h e longer whole =
    let same : s ≡ z = cc in
    longer xs (ap (λ (y : Step). y ∷ xs) (sym same)) (cc)
peel s (t ∷ more) [] x ys tail X quiet h e longer whole =
    let same : s ≡ x = cc in
    let left : step t ∷ map step more ++ tail ≡ map step ys = cc in
    let none : ys ≡ [] = h (ap is_end (sym same) ∙ no_end (is_end s) (is_quiet t more) quiet) in
    absurd (let f : step t ∷ map step more ++ tail ≡ [] = left ∙ ap (map step) none in cc)
  where
    no_end : (a b : Bool) → (not a && b) ≡ true → a ≡ false
    no_end false b k = refl
    no_end true b k = cc
peel s (t ∷ more) (z ∷ xs) x ys tail X quiet h e longer whole =
    let same : s ≡ z = cc in
    let left : step t ∷ map step more ++ tail ≡ map step (xs ++ x ∷ ys) = cc in
    peel t more xs x ys tail X (still_quiet (not (is_end s)) (is_quiet t more) quiet) h left
    (λ zs is tails. longer zs ((λ i. sym same i ∷ is i)) tails)
    (λ others last tails. whole (λ spacing. (λ i. same i ∷ others spacing i)) last tails)
  where
    still_quiet : (a b : Bool) → (a && b) ≡ true → b ≡ true
    still_quiet true b k = k
    still_quiet false b k = cc

-- the tokens that are read as some steps, of which the last is this one, before other steps
pub record HasPart (n : ℕ) (ts : List PlacedToken) (xs : List Step) (x : Step) (ys : List Step) : Type 0 where
  pub first : PlacedToken
  pub more : List PlacedToken
  pub rest : List PlacedToken
  pub split : ts ≡ first ∷ more ++ rest
  pub stops : end_from n (first ∷ more) ≡ stops_at x
  pub before : (others : List PlacedToken) → (is_end x ≡ false → spacing_before others ≡ Alone)
      → steps_before (first ∷ more) others ≡ map step (xs ++ spaced (spacing_before others) x ∷ [])
  pub left : steps_of rest ≡ map step ys

-- with one more token before them
part_with : (n : ℕ) (t : PlacedToken) (ts : List PlacedToken) (front xs : List Step) (x : Step) (ys : List Step) → steps_of_class (class_of t.kind) t ts ≡ map step front
    → HasPart (n + length t.text) ts xs x ys → HasPart n (t ∷ ts) (front ++ xs) x ys
part_with n t ts front xs x ys read p = record {
  first = t;
  more = p.first ∷ p.more;
  rest = p.rest;
  split = ap (λ (l : List PlacedToken). t ∷ l) p.split;
  stops = p.stops;
  before = λ others h.
      let same : starts_with_mark (p.first ∷ p.more ++ others) ≡ starts_with_mark ts = ap starts_with_mark (sym p.split) in
      ap (λ (l : List TextStep). l ++ steps_before (p.first ∷ p.more) others) (sort_before t (p.first ∷ p.more ++ others) ts same ∙ read)
      ∙ ap (λ (l : List TextStep). map step front ++ l) (p.before others h)
      ∙ sym (map-append step front (xs ++ spaced (spacing_before others) x ∷ []))
      ∙ ap (map step) (sym (append_assoc front xs (spaced (spacing_before others) x ∷ [])));
  left = p.left;
}

pub take_part : (n : ℕ) (ts : List PlacedToken) (xs : List Step) (x : Step) (ys : List Step) → InRow n ts → steps_of ts ≡ map step (xs ++ x ∷ ys) → (is_end x ≡ false → ys ≡ []) → HasPart n ts xs x ys
take_part n [] [] x ys row e h = absurd (cc e)
take_part n [] (z ∷ xs) x ys row e h = absurd (cc e)
take_part n (t ∷ ts) xs x ys row e h =
    sort_cases t ts (HasPart n (t ∷ ts) xs x ys)
    (λ none. part_with n t ts [] xs x ys none (take_part (n + length t.text) ts xs x ys row.2 (ap (λ (l : List TextStep). l ++ steps_of ts) (sym none) ∙ e) h))
    (λ s more are.
    peel s more xs x ys (steps_of ts) (HasPart n (t ∷ ts) xs x ys) are.quiet h (ap (λ (l : List TextStep). l ++ steps_of ts) (sym are.are) ∙ e)
    (λ zs is tail.
    subst (λ (l : List Step). HasPart n (t ∷ ts) l x ys) (sym is)
    (part_with n t ts (s ∷ more) zs x ys are.are (take_part (n + length t.text) ts zs x ys row.2 tail h)))
    (λ spaces last tail. record {
      first = t;
      more = [];
      rest = ts;
      split = refl;
      stops = ap (λ (k : ℕ). k + length t.text) (sym row.0) ∙ sym are.stops ∙ ap stops_at last;
      before = λ others follows.
          append-nil (steps_of_class (class_of t.kind) t others)
          ∙ are.elsewhere others (λ k. follows (ap is_end (sym last) ∙ k) ∙ sym (no_mark ts (tail ∙ ap (map step) (h (ap is_end (sym last) ∙ k)))))
          ∙ ap (map step) (spaces (spacing_before others));
      left = tail;
    }))
    (λ range fault. absurd (bad_first xs range (ap (λ (l : List TextStep). l ++ steps_of ts) (sym fault) ∙ e)))
  where
    bad_first : (zs : List Step) (range : TextRange) → bad range ∷ steps_of ts ≡ map step (zs ++ x ∷ ys) → ⊥
    bad_first [] range k = cc
    bad_first (z ∷ zs) range k = cc

-- the tokens before the first that is read as steps
pub record HasBlanks (n : ℕ) (ts : List PlacedToken) (x : Step) : Type 0 where
  pub blanks : List PlacedToken
  pub are_blank : AreBlank blanks
  pub rest : List PlacedToken
  pub split : ts ≡ blanks ++ rest
  pub starts : end_from n blanks ≡ starts_at x
  pub left : steps_of rest ≡ steps_of ts

pub take_blanks : (n : ℕ) (ts : List PlacedToken) (x : Step) (xs : List Step) → InRow n ts → steps_of ts ≡ step x ∷ map step xs → HasBlanks n ts x
take_blanks n [] x xs row e = absurd (cc e)
take_blanks n (t ∷ ts) x xs row e =
    sort_cases t ts (HasBlanks n (t ∷ ts) x)
    (λ none.
    let same : steps_of (t ∷ ts) ≡ steps_of ts = ap (λ (l : List TextStep). l ++ steps_of ts) none in
    let b : HasBlanks (n + length t.text) ts x = take_blanks (n + length t.text) ts x xs row.2 (sym same ∙ e) in
    record { blanks = t ∷ b.blanks; are_blank = blank_more t b.blanks none b.are_blank; rest = b.rest; split = ap (λ (l : List PlacedToken). t ∷ l) b.split; starts = b.starts; left = b.left ∙ sym same })
    (λ s more are.
    let first : step s ∷ map step more ++ steps_of ts ≡ step x ∷ map step xs = ap (λ (l : List TextStep). l ++ steps_of ts) (sym are.are) ∙ e in
    let same : s ≡ x = cc in
    record { blanks = []; are_blank = All-nil (λ (u : PlacedToken). is_blank_kind u.kind ≡ true); rest = t ∷ ts; split = refl; starts = sym row.0 ∙ sym are.starts ∙ ap starts_at same; left = refl })
    (λ range fault. absurd (let k : bad range ∷ steps_of ts ≡ step x ∷ map step xs = ap (λ (l : List TextStep). l ++ steps_of ts) (sym fault) ∙ e in cc))
  where
    blank_more : (u : PlacedToken) (us : List PlacedToken) → steps_of_class (class_of u.kind) u ts ≡ [] → AreBlank us → AreBlank (u ∷ us)
    blank_more u us none h = All-cons (λ (v : PlacedToken). is_blank_kind v.kind ≡ true) u us (nothing_is_blank u.kind u ts none) h

-- tokens that are read as nothing
pub none_are_blank : (ts : List PlacedToken) → steps_of ts ≡ [] → AreBlank ts
none_are_blank [] e = All-nil (λ (t : PlacedToken). is_blank_kind t.kind ≡ true)
none_are_blank (t ∷ ts) e =
    let parts = both_none (steps_of_class (class_of t.kind) t ts) (steps_of ts) e in
    All-cons (λ (u : PlacedToken). is_blank_kind u.kind ≡ true) t ts (nothing_is_blank t.kind t ts parts.0) (none_are_blank ts parts.1)
  where
    both_none : (xs ys : List TextStep) → xs ++ ys ≡ [] → (xs ≡ []) × (ys ≡ [])
    both_none [] ys k = (refl, k)
    both_none (x ∷ xs) ys k = absurd (cc k)
