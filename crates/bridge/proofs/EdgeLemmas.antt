-- The gap between two spelled tokens depends only on what they are to their neighbours.
use Rattle.std.proofs.Common.{◌≡◌, ℕ, Bool, true, false, not, ◌&&◌, ◌||◌, List, [], ◌++◌, refl, sym, ap, ◌∙◌, arith, nat_eq, if◌then◌else◌}
use Rattle.std.specs.Char.{encode_utf8}
use Rattle.std.specs.Prelude.{codes, Some, None}
use Rattle.std.specs.Str.{bytes_eq}
use Rattle.std.proofs.lemmas.Bool.Decides.{nat_tests}
use Rattle.std.proofs.lemmas.Slice.Eq.{bytes_eq-Decides}
use Rattle.std.proofs.lemmas.Str.{encode_same}
use Rattle.tt_data.specs.Walk.{Step, at_leaf, opens, closes}
use Rattle.tt_data.specs.declared.delimiter.DelimiterKind.TheVariants.{Parenthesis, Brace, Bracket, Invisible}
use Rattle.tt_data.specs.declared.leaf.Leaf.TheVariants as as_leaf
use Rattle.tt_data.specs.declared.leaf.Punct.{Punct}
use Rattle.bridge.specs.Edges.{are_joined, edge_of, ends_line, gap_between, is_comment}
use Rattle.bridge.specs.Printing as printing
use Rattle.bridge.specs.Spelling.{begins_with_name, is_text_of, leaf_spelling, quote_spelling, spelling}
use Rattle.tt.specs.Glued.{is_alone, is_joint}
use Rattle.bridge.specs.Text.{char}

-- the step has this spelling before some steps
abbrev pub IsSpelled : Step → List ℕ → Type 0
IsSpelled s text = (more : List Step) × (spelling s more ≡ Some text)

same_tests : (a b : Bool) → (a ≡ true → b ≡ true) → (b ≡ true → a ≡ true) → a ≡ b
same_tests true b f g = sym (f refl)
same_tests false true f g = g refl
same_tests false false f g = refl

both_hold : {X : Type 0} (u v : Bool) → (u && v) ≡ true → (u ≡ true → v ≡ true → X) → X
both_hold true v h f = f refl h
both_hold false v h f = absurd (cc)

-- ---- the texts of puncts

two_same : (c d a b : ℕ) → c ≡ a → d ≡ b → (nat_eq c a && nat_eq d b) ≡ true
two_same c d a b e f =
    let first : nat_eq c a ≡ true = grind (arith, nat_tests) in
    let second : nat_eq d b ≡ true = grind (arith, nat_tests) in
    rw (first, second) refl

two : (c d a b : ℕ) → bytes_eq (encode_utf8 c ++ encode_utf8 d) (encode_utf8 a ++ encode_utf8 b) ≡ (nat_eq c a && nat_eq d b)
two c d a b = same_tests _ _
    (λ h.
    let same = encode_same c a (encode_utf8 d) (encode_utf8 b) ((bytes_eq-Decides (encode_utf8 c ++ encode_utf8 d) (encode_utf8 a ++ encode_utf8 b)).0 h) in
    let rest : encode_utf8 d ++ [] ≡ encode_utf8 b ++ [] = ap (λ t. t ++ []) same.1 in
    two_same c d a b same.0 (encode_same d b [] [] rest).0)
    (λ h. both_hold (nat_eq c a) (nat_eq d b) h (λ f g.
    let first : c ≡ a = grind (arith, nat_tests) in
    let second : d ≡ b = grind (arith, nat_tests) in
    (bytes_eq-Decides (encode_utf8 c ++ encode_utf8 d) (encode_utf8 a ++ encode_utf8 b)).1
    (ap (λ x. encode_utf8 x ++ encode_utf8 d) first ∙ ap (λ y. encode_utf8 a ++ encode_utf8 y) second)))

line : codes "//" ≡ encode_utf8 (char "/") ++ encode_utf8 (char "/")
unfolding encode_utf8
line = refl

block : codes "/*" ≡ encode_utf8 (char "/") ++ encode_utf8 (char "*")
unfolding encode_utf8
block = refl

kept_apart : (c d : ℕ) → printing.is_kept_apart (encode_utf8 c) (encode_utf8 d) ≡ is_comment c d
kept_apart c d =
    let both = encode_utf8 c ++ encode_utf8 d in
    let by_line : bytes_eq both (codes "//") ≡ (nat_eq c (char "/") && nat_eq d (char "/")) = ap (bytes_eq both) line ∙ two c d (char "/") (char "/") in
    let by_block : bytes_eq both (codes "/*") ≡ (nat_eq c (char "/") && nat_eq d (char "*")) = ap (bytes_eq both) block ∙ two c d (char "/") (char "*") in
    ap (λ t. t || bytes_eq both (codes "/*")) by_line ∙ ap (λ t. (nat_eq c (char "/") && nat_eq d (char "/")) || t) by_block

of_test : (u : Bool) (t text : List ℕ) → (if u then Some t else None) ≡ Some text → text ≡ t
of_test true t text h = (let e : t ≡ text = cc in sym e)
of_test false t text h = absurd (cc)

punct_spelled : (p : Punct) (text : List ℕ) → nat_eq p.char (char "'") ≡ false → IsSpelled (at_leaf (as_leaf.Punct p)) text → text ≡ encode_utf8 p.char
punct_spelled p text n s =
    of_test (is_text_of (as_leaf.Punct p) (encode_utf8 p.char)) (encode_utf8 p.char) text
    (sym (ap (λ u. if u then quote_spelling (is_joint p.spacing && begins_with_name s.0) else leaf_spelling (as_leaf.Punct p)) n) ∙ s.1)

-- ---- whether two tokens are joined

abbrev joined_by : Bool → Bool → Bool → Bool → Bool
joined_by quote joined mark apart = quote || (joined && mark && not apart)

no_mark : (q j k : Bool) → joined_by q j false k ≡ q
no_mark true j k = refl
no_mark false true k = refl
no_mark false false k = refl

abbrev joined_marks : Bool → Bool → Bool → Bool → Bool
joined_marks first joined second apart = first || (joined && (not second && not apart))

marks_joined : (q j w k l : Bool) → (q ≡ false → w ≡ false → k ≡ l) → joined_by q j (not w) k ≡ joined_marks q j w l
marks_joined true j w k l e = refl
marks_joined false true true k l e = refl
marks_joined false false true k l e = refl
marks_joined false true false k l e = ap not (e refl refl)
marks_joined false false false k l e = refl

joined_same : (s t : Step) (a b : List ℕ) → IsSpelled s a → IsSpelled t b
    → printing.are_joined (record { step = s; text = a }) (record { step = t; text = b }) ≡ are_joined (edge_of s) (edge_of t)
joined_same (at_leaf (as_leaf.Punct p)) (at_leaf (as_leaf.Punct q)) a b s t =
    marks_joined (nat_eq p.char (char "'")) (not (is_alone p.spacing)) (nat_eq q.char (char "'")) (printing.is_kept_apart a b) (is_comment p.char q.char)
    (λ m n. ap (λ x. printing.is_kept_apart x b) (punct_spelled p a m s)
    ∙ ap (printing.is_kept_apart (encode_utf8 p.char)) (punct_spelled q b n t) ∙ kept_apart p.char q.char)
joined_same (at_leaf (as_leaf.Punct p)) (at_leaf (as_leaf.Ident i)) a b s t = no_mark (nat_eq p.char (char "'")) (not (is_alone p.spacing)) (printing.is_kept_apart a b)
joined_same (at_leaf (as_leaf.Punct p)) (at_leaf (as_leaf.Literal l)) a b s t = no_mark (nat_eq p.char (char "'")) (not (is_alone p.spacing)) (printing.is_kept_apart a b)
joined_same (at_leaf (as_leaf.Punct p)) (opens kind span) a b s t = no_mark (nat_eq p.char (char "'")) (not (is_alone p.spacing)) (printing.is_kept_apart a b)
joined_same (at_leaf (as_leaf.Punct p)) (closes Brace span) a b s t = no_mark (nat_eq p.char (char "'")) (not (is_alone p.spacing)) (printing.is_kept_apart a b)
joined_same (at_leaf (as_leaf.Punct p)) (closes Bracket span) a b s t = no_mark (nat_eq p.char (char "'")) (not (is_alone p.spacing)) (printing.is_kept_apart a b)
joined_same (at_leaf (as_leaf.Punct p)) (closes Parenthesis span) a b s t = no_mark (nat_eq p.char (char "'")) (not (is_alone p.spacing)) (printing.is_kept_apart a b)
joined_same (at_leaf (as_leaf.Punct p)) (closes Invisible span) a b s t = no_mark (nat_eq p.char (char "'")) (not (is_alone p.spacing)) (printing.is_kept_apart a b)
joined_same (at_leaf (as_leaf.Ident i)) t a b s u = refl
joined_same (at_leaf (as_leaf.Literal l)) t a b s u = refl
joined_same (opens kind span) t a b s u = refl
joined_same (closes Brace span) t a b s u = refl
joined_same (closes Bracket span) t a b s u = refl
joined_same (closes Parenthesis span) t a b s u = refl
joined_same (closes Invisible span) t a b s u = refl

ends_same : (s : Step) → printing.ends_line s ≡ ends_line (edge_of s)
ends_same (at_leaf (as_leaf.Punct p)) = refl
ends_same (at_leaf (as_leaf.Ident i)) = refl
ends_same (at_leaf (as_leaf.Literal l)) = refl
ends_same (opens kind span) = refl
ends_same (closes Brace span) = refl
ends_same (closes Bracket span) = refl
ends_same (closes Parenthesis span) = refl
ends_same (closes Invisible span) = refl

pub gap_same : (depth : ℕ) (s t : Step) (a b : List ℕ) → IsSpelled s a → IsSpelled t b
    → printing.gap depth (record { step = s; text = a }) (record { step = t; text = b }) ≡ gap_between depth (edge_of s) (edge_of t)
gap_same depth s t a b p q =
    let joined = printing.are_joined (record { step = s; text = a }) (record { step = t; text = b }) in
    ap (λ u. if nat_eq depth 0 && u then codes "\n" else if joined then [] else codes " ") (ends_same s)
    ∙ ap (λ u. if nat_eq depth 0 && ends_line (edge_of s) then codes "\n" else if u then [] else codes " ") (joined_same s t a b p q)
