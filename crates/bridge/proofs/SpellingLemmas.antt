-- A text that is one token: where it may be cut, and whether it is read as a given leaf.
use Rattle.std.proofs.Common.{◌≡◌, ℕ, ◌+◌, ◌-◌, ◌<◌, ◌^◌, Bool, true, ◌&&◌, List, [], ◌∷◌, length, take, refl, sym, ap, ◌∙◌, subst, arith, IsUtf8, sum_by}
use Rattle.std.specs.List.{slice_range}
use Rattle.std.specs.Prelude.{nat_lt}
use Rattle.std.specs.Str.{IsCharBoundary, chars, is_utf8}
use Rattle.std.proofs.lemmas.Bool.Decides.{nat_tests}
use Rattle.std.proofs.lemmas.List.{append-nil, take_all}
use Rattle.std.proofs.lemmas.List.Sums.{sum_by-cons}
use Rattle.std.proofs.lemmas.Str.{is_utf8-from_IsUtf8}
use Rattle.rustc_lexer.specs.Cursors.{suffix_of}
use Rattle.rustc_lexer.specs.Lexing.{tokens_of}
use Rattle.rustc_lexer.specs.Shapes.{HasByteShape, is_ended}
use Rattle.rustc_lexer.specs.declared.token.Token.{Token}
use Rattle.tt_data.specs.declared.leaf.Leaf.{Leaf}
use Rattle.bridge.specs.ReadSteps.{MayCut}
use Rattle.bridge.specs.Reading.{PlacedToken, placed_from}
use Rattle.bridge.specs.Spelling.{is_one, is_that_leaf, is_text_of}
use Rattle.bridge.specs.TokenSteps.{class_of, steps_of, steps_of_class, text_steps}
use Rattle.bridge.proofs.CutLemmas.{may_cut}

-- the one token is as long as the text
pub one_len : (text : List ℕ) (t : Token) → sum_by (λ (x : Token). x.len) (tokens_of (chars text)) ≡ length text → tokens_of (chars text) ≡ t ∷ [] → t.len ≡ length text
one_len text t sum one = omega (arith, sym sum ∙ ap (λ ts. sum_by (λ (x : Token). x.len) ts) one, sum_by-cons (λ (x : Token). x.len) t [])

whole_slice : (text : List ℕ) (n : ℕ) → n ≡ length text → slice_range text 0 (0 + n) ≡ text
whole_slice text n long =
    let e : 0 + n - 0 ≡ n = omega arith in
    rw e (take_all n text (omega (arith, long)))

pub cut_whole : (text : List ℕ) (t : Token) → IsUtf8 text → sum_by (λ (x : Token). x.len) (tokens_of (chars text)) ≡ length text → tokens_of (chars text) ≡ t ∷ []
    → (is_ended t.kind ≡ true → HasByteShape t.kind (slice_range text 0 (0 + t.len))) → IsCharBoundary text (0 + suffix_of t.kind) → MayCut (class_of t.kind) text
cut_whole text t u sum one shape boundary =
    let whole = whole_slice text t.len (one_len text t sum one) in
    let none : 0 + suffix_of t.kind ≡ suffix_of t.kind = omega arith in
    may_cut t.kind text u (λ ended. subst (HasByteShape t.kind) whole (shape ended)) (subst (IsCharBoundary text) none boundary)

all_true : (a b c d : Bool) → a ≡ true → b ≡ true → c ≡ true → ((a && b) && (c && d)) ≡ d
all_true a b c d e f g = rw (e, f, g) refl

pub told_of_one : (text : List ℕ) (t : Token) (l : Leaf) (b : Bool) → IsUtf8 text → length text < 2 ^ 32
    → sum_by (λ (x : Token). x.len) (tokens_of (chars text)) ≡ length text → tokens_of (chars text) ≡ t ∷ []
    → ((p : PlacedToken) (more : List PlacedToken) → p.text ≡ text → b ≡ is_that_leaf l (steps_of_class (class_of t.kind) p more))
    → b ≡ is_text_of l text
told_of_one text t l b u short sum one told =
    let long = one_len text t sum one in
    let all : take t.len text ≡ text = take_all t.len text (omega (arith, long)) in
    let p : PlacedToken = record { kind = t.kind; start = 0; text = take t.len text } in
    let small : nat_lt (length text) (2 ^ 32) ≡ true = grind (arith, nat_tests) in
    let single : is_one (tokens_of (chars text)) ≡ true = ap is_one one in
    let read : is_that_leaf l (text_steps text) ≡ b =
    ap (λ ts. is_that_leaf l (steps_of (placed_from 0 text ts))) one
    ∙ (ap (is_that_leaf l) (append-nil (steps_of_class (class_of t.kind) p [])) ∙ sym (told p [] all)) in
    sym (all_true (nat_lt (length text) (2 ^ 32)) (is_utf8 text) (is_one (tokens_of (chars text))) (is_that_leaf l (text_steps text)) small (is_utf8-from_IsUtf8 text u) single ∙ read)
