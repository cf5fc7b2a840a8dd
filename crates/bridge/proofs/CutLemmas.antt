-- Where the text of a token may be cut, by what its kind begins and ends with.
use Rattle.std.proofs.Common.{◌≡◌, ℕ, ◌+◌, ◌-◌, ◌<◌, ◌≤◌, List, [], ◌∷◌, ◌++◌, true, false, length, take, drop, get_or, refl, ap, ◌∙◌, arith}
use Rattle.std.proofs.Math.Seq.{get_or-append_seam}
use Rattle.std.proofs.lemmas.List.{get_or-drop, get_or-take, length-append, length-drop, length-take-le}
use Rattle.std.proofs.lemmas.Str.{IsCharBoundary-after_ascii, IsCharBoundary-before_ascii}
use Rattle.std.specs.List.{slice_range}
use Rattle.std.specs.Prelude.{Some, None}
use Rattle.std.specs.Str.{IsCharBoundary, IsUtf8}
use Rattle.rustc_lexer.specs.Cursors.{suffix_of}
use Rattle.rustc_lexer.specs.Shapes.{HasByteShape, is_ended}
use Rattle.rustc_lexer.specs.declared.token.DocStyle.TheVariants.{Outer, Inner}
use Rattle.rustc_lexer.specs.declared.token.LiteralKind.TheVariants as literal
use Rattle.rustc_lexer.specs.declared.token.TokenKind.{TokenKind}
use Rattle.rustc_lexer.specs.declared.token.TokenKind.TheVariants as kind
use Rattle.bridge.specs.ReadSteps.{MayCut}
use Rattle.bridge.specs.TokenSteps.{class_of}

-- behind the character of one byte that ends the first of two parts
behind : (bs front rest : List ℕ) (q : ℕ) → IsUtf8 bs → q < 128 → bs ≡ front ++ (q ∷ rest) → IsCharBoundary bs (length front + 1)
behind bs front rest q u small e =
    let at : get_or bs (length front) 0 ≡ q = ap (λ l. get_or l (length front) 0) e ∙ get_or-append_seam front q rest 0 in
    let n : length bs ≡ length front + length {A = ℕ} (q ∷ rest) = ap length e ∙ length-append front (q ∷ rest) in
    IsCharBoundary-after_ascii bs (length front) u (omega (arith, n)) (omega (arith, at, small))

-- before the two last characters, of one byte each
before_two : (bs front : List ℕ) (q r : ℕ) → q < 128 → bs ≡ front ++ (q ∷ r ∷ []) → IsCharBoundary bs (length bs - 2)
before_two bs front q r small e =
    let at : get_or bs (length front) 0 ≡ q = ap (λ l. get_or l (length front) 0) e ∙ get_or-append_seam front q (r ∷ []) 0 in
    let n : length bs ≡ length front + 2 = ap length e ∙ length-append front (q ∷ r ∷ []) in
    let m : length bs - 2 ≡ length front = omega (arith, n) in
    rw m (IsCharBoundary-before_ascii bs (length front) (omega (arith, n)) (omega (arith, at, small)))

-- a doc comment: three characters of one byte at its front, and `*/` at a block's end
line_cut : (bs rest : List ℕ) (a b c : ℕ) → IsUtf8 bs → c < 128 → bs ≡ a ∷ (b ∷ (c ∷ rest)) → IsCharBoundary bs 3
line_cut bs rest a b c u small e = behind bs (a ∷ (b ∷ [])) rest c u small e

block_cut : (bs inner suffix : List ℕ) (a b c : ℕ) → IsUtf8 bs → c < 128 → suffix ≡ [] → bs ≡ a ∷ (b ∷ (c ∷ (inner ++ ((42 ∷ 47 ∷ []) ++ suffix))))
    → IsCharBoundary bs 3 × ((5 ≤ length bs) × IsCharBoundary bs (length bs - 2))
block_cut bs inner suffix a b c u small none e =
    let split : bs ≡ (a ∷ (b ∷ (c ∷ inner))) ++ (42 ∷ 47 ∷ []) = e ∙ rw none refl in
    let n : length bs ≡ length {A = ℕ} (a ∷ (b ∷ (c ∷ inner))) + 2 = ap length split ∙ length-append (a ∷ (b ∷ (c ∷ inner))) (42 ∷ 47 ∷ []) in
    (line_cut bs _ a b c u small e, (omega (arith, n), before_two bs (a ∷ (b ∷ (c ∷ inner))) 42 47 (omega arith) split))

-- a token can be cut as one of its class is: a literal begins and ends just as its form does
pub may_cut : (k : TokenKind) (bs : List ℕ) → IsUtf8 bs → (is_ended k ≡ true → HasByteShape k bs) → IsCharBoundary bs (suffix_of k) → MayCut (class_of k) bs
may_cut kind.RawIdent bs u h b = let s = h refl in behind bs (114 ∷ []) _ 35 u (omega arith) s.is
may_cut (kind.Lifetime false) bs u h b = let s = h refl in behind bs [] _ 39 u (omega arith) s.is
may_cut (kind.LineComment (Some Outer)) bs u h b = let s = h refl in (line_cut bs _ 47 47 47 u (omega arith) s.is, tt)
may_cut (kind.LineComment (Some Inner)) bs u h b = let s = h refl in (line_cut bs _ 47 47 33 u (omega arith) s.is, tt)
may_cut (kind.BlockComment (Some Outer) true) bs u h b = let s = h refl in block_cut bs s.inner s.suffix 47 42 42 u (omega arith) s.starts s.is
may_cut (kind.BlockComment (Some Inner) true) bs u h b = let s = h refl in block_cut bs s.inner s.suffix 47 42 33 u (omega arith) s.starts s.is
may_cut (kind.Literal (literal.Int base empty) at) bs u h b = let s = h refl in (b, record { text = s.inner; suffix = s.suffix; is = s.is; starts = s.starts })
may_cut (kind.Literal (literal.Float base empty) at) bs u h b = let s = h refl in (b, record { text = s.inner; suffix = s.suffix; is = s.is; starts = s.starts })
may_cut (kind.Literal (literal.Char true) at) bs u h b = let s = h refl in (b, record { text = s.inner; suffix = s.suffix; is = s.is; starts = s.starts })
may_cut (kind.Literal (literal.Byte true) at) bs u h b = let s = h refl in (b, record { text = s.inner; suffix = s.suffix; is = s.is; starts = s.starts })
may_cut (kind.Literal (literal.Str true) at) bs u h b = let s = h refl in (b, record { text = s.inner; suffix = s.suffix; is = s.is; starts = s.starts })
may_cut (kind.Literal (literal.ByteStr true) at) bs u h b = let s = h refl in (b, record { text = s.inner; suffix = s.suffix; is = s.is; starts = s.starts })
may_cut (kind.Literal (literal.CStr true) at) bs u h b = let s = h refl in (b, record { text = s.inner; suffix = s.suffix; is = s.is; starts = s.starts })
may_cut (kind.Literal (literal.RawStr (Some n)) at) bs u h b = let s = h refl in (b, record { text = s.inner; suffix = s.suffix; is = s.is; starts = s.starts })
may_cut (kind.Literal (literal.RawByteStr (Some n)) at) bs u h b = let s = h refl in (b, record { text = s.inner; suffix = s.suffix; is = s.is; starts = s.starts })
may_cut (kind.Literal (literal.RawCStr (Some n)) at) bs u h b = let s = h refl in (b, record { text = s.inner; suffix = s.suffix; is = s.is; starts = s.starts })
may_cut (kind.Literal (literal.GuardedStr (Some n)) at) bs u h b = let s = h refl in (b, record { text = s.inner; suffix = s.suffix; is = s.is; starts = s.starts })
may_cut (kind.LineComment None) bs u h b = tt
may_cut (kind.BlockComment None true) bs u h b = tt
may_cut (kind.BlockComment None false) bs u h b = tt
may_cut (kind.BlockComment (Some style) false) bs u h b = tt
may_cut (kind.Lifetime true) bs u h b = tt
may_cut (kind.Literal (literal.Char false) at) bs u h b = tt
may_cut (kind.Literal (literal.Byte false) at) bs u h b = tt
may_cut (kind.Literal (literal.Str false) at) bs u h b = tt
may_cut (kind.Literal (literal.ByteStr false) at) bs u h b = tt
may_cut (kind.Literal (literal.CStr false) at) bs u h b = tt
may_cut (kind.Literal (literal.RawStr None) at) bs u h b = tt
may_cut (kind.Literal (literal.RawByteStr None) at) bs u h b = tt
may_cut (kind.Literal (literal.RawCStr None) at) bs u h b = tt
may_cut (kind.Literal (literal.GuardedStr None) at) bs u h b = tt
may_cut _ bs u h b = tt

-- a place between two characters of a text is one in the part that holds it
pub boundary_in : (text : List ℕ) (at len n : ℕ) → n ≤ len → at + len ≤ length text → IsCharBoundary text (at + n) → IsCharBoundary (slice_range text at (at + len)) n
boundary_in text at len n le fits b =
    let e : at + len - at ≡ len = omega arith in
    let enough : len ≤ length (drop at text) = omega (arith, fits, length-drop at text) in
    let long : length (take len (drop at text)) ≡ len = length-take-le len (drop at text) enough in
    rw e (
      omega (arith, long, le),
      λ l high.
          let within : n < len = omega (arith, l, long) in
          let same : get_or (take len (drop at text)) n 0 ≡ get_or text (at + n) 0 = get_or-take len (drop at text) n 0 within ∙ get_or-drop at text n 0 in
          omega (arith, same, b.1 (omega (arith, within, fits)) (omega (arith, same, high))),
    )
