-- A UTF-8 text cut after its first n characters: both parts are UTF-8, and spell these characters
-- and the others.
use Rattle.std.proofs.Common.{◌≡◌, ℕ, List, [], ◌∷◌, ◌++◌, length, take, drop, refl, sym, ◌∙◌, ap, subst, chars, encode_utf8_all, encode_utf8, IsUtf8, IsCharBoundary, length-append}
use Rattle.std.proofs.Math.Seq.{take-append_seam, drop-append_seam}
use Rattle.std.proofs.lemmas.List.{append_assoc, take-append-drop}
use Rattle.std.proofs.lemmas.Str.{encodes-chars, encodes-append, length-encode, chars_from_encodes, IsUtf8-past_char, IsUtf8-take, IsUtf8-drop, IsCharBoundary-at_seam}
use Rattle.rustc_lexer.specs.Character.{utf8_len}

pub length_encodes : (cs : List ℕ) → length (encode_utf8_all cs) ≡ utf8_len cs
length_encodes [] = refl
length_encodes (c ∷ cs) = rw (length-append, length-encode c, length_encodes cs)

-- what follows whole characters in a UTF-8 text is UTF-8
utf8_behind : (xs ys bs : List ℕ) → IsUtf8 bs → bs ≡ encode_utf8_all xs ++ ys → IsUtf8 ys
utf8_behind [] ys bs u e = subst IsUtf8 e u
utf8_behind (c ∷ xs) ys bs u e =
    utf8_behind xs ys (encode_utf8_all xs ++ ys)
    (IsUtf8-past_char bs (encode_utf8_all xs ++ ys) c u (e ∙ append_assoc (encode_utf8 c) (encode_utf8_all xs) ys)) refl

-- the place m, in bytes, is behind the first n characters
pub record IsBehind (bs : List ℕ) (n m : ℕ) : Type 0 where
  pub boundary : IsCharBoundary bs m
  pub front_utf8 : IsUtf8 (take m bs)
  pub rest_utf8 : IsUtf8 (drop m bs)
  pub front : chars (take m bs) ≡ take n (chars bs)
  pub rest : chars (drop m bs) ≡ drop n (chars bs)

seam : (bs xs ys : List ℕ) (n : ℕ) → IsUtf8 bs → take n (chars bs) ≡ xs → drop n (chars bs) ≡ ys →
    bs ≡ encode_utf8_all xs ++ encode_utf8_all ys → IsBehind bs n (length (encode_utf8_all xs))
seam bs xs ys n u is_front is_rest e =
    let m : ℕ = length (encode_utf8_all xs) in
    let boundary = IsCharBoundary-at_seam bs (encode_utf8_all xs) (encode_utf8_all ys) e (utf8_behind xs (encode_utf8_all ys) bs u e) in
    let taken : take m bs ≡ encode_utf8_all xs = ap (take m) e ∙ take-append_seam (encode_utf8_all xs) (encode_utf8_all ys) in
    let left : drop m bs ≡ encode_utf8_all ys = ap (drop m) e ∙ drop-append_seam (encode_utf8_all xs) (encode_utf8_all ys) in
    let front_utf8 = IsUtf8-take bs m u boundary in
    let rest_utf8 = IsUtf8-drop bs m u boundary in
    record {
      boundary = boundary;
      front_utf8 = front_utf8;
      rest_utf8 = rest_utf8;
      front = sym (chars_from_encodes xs (take m bs) front_utf8 (sym taken)) ∙ sym is_front;
      rest = sym (chars_from_encodes ys (drop m bs) rest_utf8 (sym left)) ∙ sym is_rest;
    }

pub behind_chars : (bs : List ℕ) (n : ℕ) → IsUtf8 bs → IsBehind bs n (utf8_len (take n (chars bs)))
behind_chars bs n u =
    let whole : bs ≡ encode_utf8_all (take n (chars bs)) ++ encode_utf8_all (drop n (chars bs)) =
    sym (encodes-chars bs u) ∙ ap encode_utf8_all (sym (take-append-drop n (chars bs))) ∙ encodes-append (take n (chars bs)) (drop n (chars bs)) in
    subst (IsBehind bs n) (length_encodes (take n (chars bs))) (seam bs (take n (chars bs)) (drop n (chars bs)) n u refl refl whole)
