-- Where the text of a literal token may be cut: after its first quote, and before its last one.
use Rattle.std.proofs.Common.{◌≡◌, ℕ, ◌+◌, ◌-◌, ◌<◌, List, [], ◌∷◌, ◌++◌, length, get_or, sym, ap, ◌∙◌, append_assoc, arith}
use Rattle.std.proofs.Math.Seq.{get_or-append_seam}
use Rattle.std.proofs.lemmas.List.{length-append}
use Rattle.std.proofs.lemmas.Str.{IsCharBoundary-start, IsCharBoundary-after_ascii, IsCharBoundary-before_ascii}
use Rattle.std.specs.Prelude.{codes, replicate}
use Rattle.std.specs.Str.{IsCharBoundary, IsUtf8}
use Rattle.tt.specs.TokenLiterals.{IsLiteralToken, form_begin, form_end}
use Rattle.tt_data.specs.declared.leaf.LitKind.{LitKind}
use Rattle.tt_data.specs.declared.leaf.LitKind.TheVariants.{Byte, Char, Integer, Float, Str, StrRaw, ByteStr, ByteStrRaw, CStr, CStrRaw, StrGuarded, Err}

-- after a character of one byte
behind : (bs front rest : List ℕ) (q : ℕ) → IsUtf8 bs → q < 128 → bs ≡ front ++ (q ∷ rest) → IsCharBoundary bs (length front + 1)
behind bs front rest q u small e =
    let at : get_or bs (length front) 0 ≡ q = ap (λ l. get_or l (length front) 0) e ∙ get_or-append_seam front q rest 0 in
    let n : length bs ≡ length front + length {A = ℕ} (q ∷ rest) = ap length e ∙ length-append front (q ∷ rest) in
    IsCharBoundary-after_ascii bs (length front) u (omega (arith, n)) (omega (arith, at, small))

-- before a character of one byte
before : (bs front rest : List ℕ) (q : ℕ) → q < 128 → bs ≡ front ++ (q ∷ rest) → IsCharBoundary bs (length front)
before bs front rest q small e =
    let at : get_or bs (length front) 0 ≡ q = ap (λ l. get_or l (length front) 0) e ∙ get_or-append_seam front q rest 0 in
    let n : length bs ≡ length front + length {A = ℕ} (q ∷ rest) = ap length e ∙ length-append front (q ∷ rest) in
    IsCharBoundary-before_ascii bs (length front) (omega (arith, n)) (omega (arith, at, small))

-- after letters, hashes and a quote
behind_begin : (bs letters hashes rest : List ℕ) (q : ℕ) → IsUtf8 bs → q < 128 → bs ≡ (letters ++ (hashes ++ (q ∷ []))) ++ rest
    → IsCharBoundary bs (length (letters ++ (hashes ++ (q ∷ []))))
behind_begin bs letters hashes rest q u small e =
    let split : bs ≡ (letters ++ hashes) ++ (q ∷ rest) = e ∙ simp append_assoc in
    let n : length (letters ++ (hashes ++ (q ∷ []))) ≡ length (letters ++ hashes) + 1 =
    ap length (sym (append_assoc letters hashes (q ∷ []))) ∙ length-append (letters ++ hashes) (q ∷ []) in
    rw n (behind bs (letters ++ hashes) rest q u small split)

pub begin_boundary : (form : LitKind) (at : ℕ) (bs : List ℕ) → IsUtf8 bs → IsLiteralToken form at bs → IsCharBoundary bs (length (form_begin form))
begin_boundary Integer at bs u w = IsCharBoundary-start bs u
begin_boundary Float at bs u w = IsCharBoundary-start bs u
begin_boundary (Err e) at bs u w = IsCharBoundary-start bs u
begin_boundary Char at bs u w = behind_begin bs [] [] _ 39 u (omega arith) w.is
begin_boundary Byte at bs u w = behind_begin bs (codes "b") [] _ 39 u (omega arith) w.is
begin_boundary Str at bs u w = behind_begin bs [] [] _ 34 u (omega arith) w.is
begin_boundary ByteStr at bs u w = behind_begin bs (codes "b") [] _ 34 u (omega arith) w.is
begin_boundary CStr at bs u w = behind_begin bs (codes "c") [] _ 34 u (omega arith) w.is
begin_boundary (StrRaw n) at bs u w = behind_begin bs (codes "r") (replicate n 35) _ 34 u (omega arith) w.is
begin_boundary (ByteStrRaw n) at bs u w = behind_begin bs (codes "br") (replicate n 35) _ 34 u (omega arith) w.is
begin_boundary (CStrRaw n) at bs u w = behind_begin bs (codes "cr") (replicate n 35) _ 34 u (omega arith) w.is
begin_boundary (StrGuarded n) at bs u w = behind_begin bs [] (replicate n 35) _ 34 u (omega arith) w.is

-- before a quote and hashes
before_end : (bs begin text hashes rest : List ℕ) (q at : ℕ) → q < 128 → bs ≡ begin ++ (text ++ ((q ∷ hashes) ++ rest))
    → at ≡ length (begin ++ (text ++ (q ∷ hashes))) → IsCharBoundary bs (at - length (q ∷ hashes))
before_end bs begin text hashes rest q at small e starts =
    let split : bs ≡ (begin ++ text) ++ (q ∷ (hashes ++ rest)) = e ∙ sym (append_assoc begin text (q ∷ (hashes ++ rest))) in
    let n : at ≡ length (begin ++ text) + length (q ∷ hashes) =
    starts ∙ ap length (sym (append_assoc begin text (q ∷ hashes))) ∙ length-append (begin ++ text) (q ∷ hashes) in
    let m : at - length (q ∷ hashes) ≡ length (begin ++ text) = omega (arith, n) in
    rw m (before bs (begin ++ text) (hashes ++ rest) q small split)

-- before nothing
at_itself : (bs : List ℕ) (at : ℕ) → IsCharBoundary bs at → IsCharBoundary bs (at - 0)
at_itself bs at b = let e : at - 0 ≡ at = omega arith in rw e b

pub end_boundary : (form : LitKind) (at : ℕ) (bs : List ℕ) → IsCharBoundary bs at → IsLiteralToken form at bs → IsCharBoundary bs (at - length (form_end form))
end_boundary Integer at bs b w = at_itself bs at b
end_boundary Float at bs b w = at_itself bs at b
end_boundary (Err e) at bs b w = at_itself bs at b
end_boundary Char at bs b w = before_end bs (form_begin Char) w.text [] w.suffix 39 at (omega arith) w.is w.starts
end_boundary Byte at bs b w = before_end bs (form_begin Byte) w.text [] w.suffix 39 at (omega arith) w.is w.starts
end_boundary Str at bs b w = before_end bs (form_begin Str) w.text [] w.suffix 34 at (omega arith) w.is w.starts
end_boundary ByteStr at bs b w = before_end bs (form_begin ByteStr) w.text [] w.suffix 34 at (omega arith) w.is w.starts
end_boundary CStr at bs b w = before_end bs (form_begin CStr) w.text [] w.suffix 34 at (omega arith) w.is w.starts
end_boundary (StrRaw n) at bs b w = before_end bs (form_begin (StrRaw n)) w.text (replicate n 35) w.suffix 34 at (omega arith) w.is w.starts
end_boundary (ByteStrRaw n) at bs b w = before_end bs (form_begin (ByteStrRaw n)) w.text (replicate n 35) w.suffix 34 at (omega arith) w.is w.starts
end_boundary (CStrRaw n) at bs b w = before_end bs (form_begin (CStrRaw n)) w.text (replicate n 35) w.suffix 34 at (omega arith) w.is w.starts
end_boundary (StrGuarded n) at bs b w = before_end bs (form_begin (StrGuarded n)) w.text (replicate n 35) w.suffix 34 at (omega arith) w.is w.starts
