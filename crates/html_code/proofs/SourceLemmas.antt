-- The parts of a text token by token: those of what is left are those of the next token and of the rest.
use Rattle.std.proofs.Common.{◌≡◌, ℕ, ◌+◌, List, [], ◌∷◌, ◌++◌, Bool, true, false, Option, Some, None, length, take, drop, refl, subst, sym, ap, ◌∙◌, append_assoc, arith}
use Rattle.std.proofs.lemmas.List.{drop-drop, length-append, drop-take, take-append-drop, take_all, take-take, append-nil}
use Rattle.std.proofs.lemmas.List.Sums.{sum_by-cons}
use Rattle.std.specs.Prelude.{chars, sum_by, if◌then◌else◌}
use Rattle.rustc_lexer.specs.Lexing.{tokens_of}
use Rattle.rustc_lexer.specs.declared.token.Token.{Token}
use Rattle.html_code.specs.Parts.{Part, shown, isolated, html_of, html_of_part, text_of, text_of_part}
use Rattle.html_code.specs.SourceParts.{AddsToken, Point, attributes_of, blank_parts, class_of, count_after, first_cut, parts_of, faults_from, point_after, source_from, source_parts, start_of, starts_from}
use Rattle.html_code.specs.Tokens.{blank_part, ends_word, comment_part, is_bare, is_plain, token_part}
use Rattle.html_code.specs.declared.source.Class.{Class}
use Rattle.html_code.specs.declared.source.Class.TheVariants.{Blank, Comment, Code}
use Rattle.html_code.specs.declared.source.Mark.{Mark}

pub html_append : (ps qs : List Part) → html_of (ps ++ qs) ≡ html_of ps ++ html_of qs
html_append [] qs = refl
html_append (p ∷ ps) qs = ap (λ (xs : List ℕ). html_of_part p ++ xs) (html_append ps qs) ∙ sym (append_assoc (html_of_part p) (html_of ps) (html_of qs))

pub text_append : (ps qs : List Part) → text_of (ps ++ qs) ≡ text_of ps ++ text_of qs
text_append [] qs = refl
text_append (p ∷ ps) qs = ap (λ (xs : List ℕ). text_of_part p ++ xs) (text_append ps qs) ∙ sym (append_assoc (text_of_part p) (text_of ps) (text_of qs))

-- what one more token adds goes on to all
pub one_more : (old new all : List ℕ) (ps qs : List Part) → old ++ html_of (ps ++ qs) ≡ all → new ≡ old ++ html_of ps → new ++ html_of qs ≡ all
one_more old new all ps qs so_far added =
    ap (λ (xs : List ℕ). xs ++ html_of qs) added ∙ append_assoc old (html_of ps) (html_of qs)
    ∙ sym (ap (λ (xs : List ℕ). old ++ xs) (html_append ps qs)) ∙ so_far

pub count_more : (class : Class) (starts new : List ℕ) (start : ℕ) → new ≡ starts ++ start_of class start → length new ≡ count_after class (length starts)
count_more Blank starts new start is = let e : length new ≡ length starts + 0 = ap length is ∙ length-append starts [] in omega arith
count_more Comment starts new start is = let e : length new ≡ length starts + 0 = ap length is ∙ length-append starts [] in omega arith
count_more Code starts new start is = ap length is ∙ length-append starts (start ∷ [])

-- a token with a number is added
pub code_added : (old new : List ℕ) (from : Point) (faults : List Mark) (behind : Bool) (class : Class) (number stop : ℕ) (word : List ℕ)
    → class ≡ Code → new ≡ old ++ html_of_part (token_part from.behind (attributes_of from.faults number stop) word)
    → faults ≡ faults_from from.faults stop → behind ≡ ends_word from.behind (attributes_of from.faults number stop) word
    → AddsToken old new from (record { faults = faults; behind = behind }) class number stop word
code_added old new from faults behind class number stop word is html of_faults of_behind =
    let point : Point = record { faults = faults; behind = behind } in
    let part : Part = token_part from.behind (attributes_of from.faults number stop) word in
    let added : AddsToken old new from point Code number stop word = record {
      cut = None;
      html = html ∙ ap (λ (xs : List ℕ). old ++ xs) (sym (append-nil (html_of_part part)));
      point = rw (of_faults, of_behind) refl;
    } in
    subst (λ k. AddsToken old new from point k number stop word) (sym is) added

-- with some cuts for what came so far, what came and what is to come are all
abbrev pub IsSoFar : (all : List (Option ℕ) → List ℕ) → (bytes : List ℕ) → Point → (count start : ℕ) → List ℕ → List Token → Type 0
IsSoFar all bytes at count start rest left =
    (cuts : List (Option ℕ)) × ((more : List (Option ℕ)) → bytes ++ html_of (source_from more at count start rest left) ≡ all (cuts ++ more))

-- at the end
pub ends : (all : List (Option ℕ) → List ℕ) (bytes : List ℕ) (at : Point) (count start : ℕ) (rest : List ℕ) (left : List Token)
    → IsSoFar all bytes at count start rest left → left ≡ [] → (cuts : List (Option ℕ)) × (bytes ≡ all cuts)
ends all bytes at count start rest left so_far is = (
  so_far.0 ++ [],
  sym (append-nil bytes)
      ∙ sym (ap (λ (ts : List Token). bytes ++ html_of (source_from [] at count start rest ts)) is)
      ∙ so_far.1 [],
)

module _ (text : List ℕ) (start : ℕ) (t : Token) (left more : List Token) (is : left ≡ t ∷ more) where
  pub parts_more : (all : List (Option ℕ) → List ℕ) (from to : Point) (count count_new number stop : ℕ) (class : Class) (word old new : List ℕ)
      → IsSoFar all old from count start (drop start text) left
      → class ≡ class_of t.kind → number ≡ count + 1 → stop ≡ start + t.len → word ≡ take t.len (drop start text)
      → AddsToken old new from to class number stop word → count_new ≡ count_after class count
      → IsSoFar all new to count_new stop (drop stop text) more
  parts_more all from to count count_new number stop class word old new so_far of_class of_number of_stop of_word adds of_count = (
    so_far.0 ++ adds.cut ∷ [],
    λ others.
        let here : List Part = parts_of (class_of t.kind) adds.cut from (count + 1) (start + t.len) (take t.len (drop start text)) in
        let after : Point = point_after (class_of t.kind) from (count + 1) (start + t.len) (take t.len (drop start text)) in
        let rest : List Part = source_from others after (count_after (class_of t.kind) count) (start + t.len) (drop (start + t.len) text) more in
        let so : old ++ html_of (here ++ rest) ≡ all (so_far.0 ++ adds.cut ∷ others) =
        sym (ap (λ (ts : List Token). old ++ html_of (source_from (adds.cut ∷ others) from count start (drop start text) ts)) is
        ∙ ap (λ (r : List ℕ). old ++ html_of (here ++ source_from others after (count_after (class_of t.kind) count) (start + t.len) r more)) (drop-drop t.len start text))
        ∙ so_far.1 (adds.cut ∷ others) in
        let same : parts_of class adds.cut from number stop word ≡ here = rw (of_class, of_number, of_stop, of_word) refl in
        let point : to ≡ after = adds.point ∙ rw (of_class, of_number, of_stop, of_word) refl in
        let next : source_from others to count_new stop (drop stop text) more ≡ rest = rw (point, of_count, of_class, of_stop) refl in
        ap (λ (ps : List Part). new ++ html_of ps) next
        ∙ one_more old new (all (so_far.0 ++ adds.cut ∷ others)) here rest so (adds.html ∙ ap (λ (ps : List Part). old ++ html_of ps) same)
        ∙ ap all (sym (append_assoc so_far.0 (adds.cut ∷ []) others)),
  )

  pub starts_more : (class : Class) (stop : ℕ) (old new all : List ℕ) → old ++ starts_from start left ≡ all → class ≡ class_of t.kind → stop ≡ start + t.len
      → new ≡ old ++ start_of class start → new ++ starts_from stop more ≡ all
  starts_more class stop old new all so_far of_class of_stop added =
      let here : List ℕ = start_of (class_of t.kind) start in
      let rest : List ℕ = starts_from (start + t.len) more in
      let so : old ++ (here ++ rest) ≡ all = sym (ap (λ (ts : List Token). old ++ starts_from start ts) is) ∙ so_far in
      ap (λ (xs : List ℕ). xs ++ starts_from stop more) (added ∙ ap (λ (k : Class). old ++ start_of k start) of_class)
      ∙ ap (λ n. (old ++ here) ++ starts_from n more) of_stop
      ∙ append_assoc old here rest ∙ so

-- ---- the text that is shown

pub text_of_token : (behind : Bool) (attributes : Option (List ℕ)) (word : List ℕ) → text_of_part (token_part behind attributes word) ≡ word
text_of_token behind None word =
    elim (is_bare behind word) as (λ b. text_of_part (if b then shown word else isolated [] word) ≡ word) [ true ↦ refl | false ↦ refl ]
text_of_token behind (Some attributes) word = refl

text_of_blank : (word : List ℕ) → text_of_part (blank_part word) ≡ word
text_of_blank word = elim (is_plain word) as (λ b. text_of_part (if b then shown word else comment_part word) ≡ word) [ true ↦ refl | false ↦ refl ]

pub text_of_one : (p : Part) (word : List ℕ) → text_of_part p ≡ word → text_of (p ∷ []) ≡ word
text_of_one p word is = append-nil (text_of_part p) ∙ is

text_of_blanks : (cut : Option ℕ) (word : List ℕ) → text_of (blank_parts cut word) ≡ word
text_of_blanks None word = text_of_one (blank_part word) word (text_of_blank word)
text_of_blanks (Some at) word =
    ap (λ (xs : List ℕ). xs ++ text_of (blank_part (drop at word) ∷ [])) (text_of_blank (take at word))
    ∙ ap (λ (xs : List ℕ). take at word ++ xs) (text_of_one (blank_part (drop at word)) (drop at word) (text_of_blank (drop at word)))
    ∙ take-append-drop at word

text_of_parts : (class : Class) (cut : Option ℕ) (at : Point) (number stop : ℕ) (word : List ℕ) → text_of (parts_of class cut at number stop word) ≡ word
text_of_parts Blank cut at number stop word = text_of_blanks cut word
text_of_parts Comment cut at number stop word = append-nil word
text_of_parts Code cut at number stop word =
    text_of_one (token_part at.behind (attributes_of at.faults number stop) word) word (text_of_token at.behind (attributes_of at.faults number stop) word)

take_sum : (m n : ℕ) (xs : List ℕ) → take m xs ++ take n (drop m xs) ≡ take (m + n) xs
take_sum m n xs =
    ap (λ (ys : List ℕ). ys ++ take n (drop m xs)) (sym (take-take m (m + n) xs (omega arith)))
    ∙ ap (λ (ys : List ℕ). take m (take (m + n) xs) ++ ys) (sym (drop-take m n xs))
    ∙ take-append-drop m (take (m + n) xs)

text_from : (cuts : List (Option ℕ)) (at : Point) (count start : ℕ) (rest : List ℕ) (ts : List Token)
    → text_of (source_from cuts at count start rest ts) ≡ take (sum_by (λ (t : Token). t.len) ts) rest
text_from cuts at count start rest [] = refl
text_from cuts at count start rest (t ∷ ts) =
    let here : List Part = parts_of (class_of t.kind) (first_cut cuts) at (count + 1) (start + t.len) (take t.len rest) in
    let next : Point = point_after (class_of t.kind) at (count + 1) (start + t.len) (take t.len rest) in
    let after : List Part = source_from (drop 1 cuts) next (count_after (class_of t.kind) count) (start + t.len) (drop t.len rest) ts in
    text_append here after
    ∙ ap (λ (xs : List ℕ). xs ++ text_of after) (text_of_parts (class_of t.kind) (first_cut cuts) at (count + 1) (start + t.len) (take t.len rest))
    ∙ ap (λ (xs : List ℕ). take t.len rest ++ xs) (text_from (drop 1 cuts) next (count_after (class_of t.kind) count) (start + t.len) (drop t.len rest) ts)
    ∙ take_sum t.len (sum_by (λ (t : Token). t.len) ts) rest
    ∙ ap (λ n. take n rest) (sym (sum_by-cons (λ (t : Token). t.len) t ts))

pub text_is_whole : (cuts : List (Option ℕ)) (faults : List Mark) (text : List ℕ) → sum_by (λ (t : Token). t.len) (tokens_of (chars text)) ≡ length text
    → text_of (source_parts cuts faults text) ≡ text
text_is_whole cuts faults text whole =
    text_from cuts (record { faults = faults; behind = false }) 0 0 text (tokens_of (chars text)) ∙ ap (λ n. take n text) whole
    ∙ take_all (length text) text (omega arith)
