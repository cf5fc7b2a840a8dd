-- Metavariable expressions: numbers as std parses them, and parts one by one.
use Rattle.std.proofs.Common.{◌≡◌, refl, sym, ap, ap₂, ◌∙◌, ℕ, ◌^◌, ◌<◌, ◌≤◌, Bool, true, false, ◌&&◌, nat_lt, if◌then◌else◌, List, [], ◌∷◌, ◌++◌, append_assoc, append-nil, map, length, Option, Some, None, Result, Ok, Err, OkIff, arith, lt-ltb, ltb-true}
use Rattle.std.proofs.lemmas.Bool.{and_parts}
use Rattle.std.proofs.lemmas.Str.Parse.{IsNumeralModel, numerals_by_value, tells_all_ascii_digits}
use Rattle.std.specs.Result.{result_ok}
use Rattle.std.specs.Str.{all_ascii_digits}
use Rattle.std.specs.Str.Parse.{digits_value, without_leading_plus, IsNumeral, ParsesUnsigned}
use Rattle.mbe_rules.specs.Expressions.{number_of_digits, number_in, with_part, parts_in, part_then, concat_in}
use Rattle.mbe_rules.specs.Items.{Part, value_of, concat_of}
use Rattle.mbe_rules.specs.Ops.{part_of}
use Rattle.mbe_rules.specs.Trees.{Sign, name, punct}
use Rattle.mbe_rules.specs.declared.parser.ConcatElement.{ConcatElement}

-- ---- numbers

digits : IsNumeralModel (λ ds. all_ascii_digits ds ≡ true) (digits_value 10)
digits = numerals_by_value (λ ds. all_ascii_digits ds ≡ true) tells_all_ascii_digits

and_both : (a b : Bool) → a ≡ true → b ≡ true → (a && b) ≡ true
and_both a b h k = ap₂ (λ x y. x && y) h k

read_digits : {E : Type 0} (ds : List ℕ) (r : Result ℕ E) → OkIff r (IsNumeral 10 ds × (digits_value 10 ds < 2 ^ 64)) (digits_value 10 ds) →
    result_ok r ≡ number_of_digits ds
read_digits [] (Ok n) h = absurd (let some = h.0.0.0 in omega (arith, some))
read_digits [] (Err e) h = refl
read_digits (c ∷ cs) (Ok n) h =
    ap Some h.1
    ∙ sym (ap (λ b. if b then Some (digits_value 10 (c ∷ cs)) else None)
    (and_both _ _ (digits.from (c ∷ cs) h.0.0.1) (lt-ltb _ _ h.0.1)))
read_digits (c ∷ cs) (Err e) h = go (all_ascii_digits (c ∷ cs) && nat_lt (digits_value 10 (c ∷ cs)) (2 ^ 64)) refl
  where
    go : (b : Bool) → (all_ascii_digits (c ∷ cs) && nat_lt (digits_value 10 (c ∷ cs)) (2 ^ 64)) ≡ b →
        None ≡ (if b then Some (digits_value 10 (c ∷ cs)) else None)
    go false k = refl
    go true k =
        let both = and_parts (all_ascii_digits (c ∷ cs)) (nat_lt (digits_value 10 (c ∷ cs)) (2 ^ 64)) k in
        absurd (h ((omega arith, digits.to (c ∷ cs) both.0), ltb-true _ _ both.1))

-- what std reads as a number of 64 bits is what the text spells
pub number_read : {E : Type 0} (text : List ℕ) (r : Result ℕ E) → ParsesUnsigned 64 10 text r → result_ok r ≡ number_in text
number_read text r h = read_digits (without_leading_plus text) r h

-- ---- parts

-- the part that a `$` and a name are
pub value_part : (d : ℕ) (n : List ℕ) (old new : List Sign) → old ≡ name n ∷ new → d ≡ 36 →
    parts_in (punct d ∷ old) ≡ part_then (value_of n) new
value_part d n old new h e = ap₂ (λ c ss. parts_in (punct c ∷ ss)) e h

-- parts before others
abbrev pub before : List Part → Option (List Part) → Option (List Part)
before ps None = None
before ps (Some qs) = Some (ps ++ qs)

pub before_all : (r : Option (List Part)) → r ≡ before [] r
before_all None = refl
before_all (Some qs) = refl

pub before_end : (ps : List Part) → Some ps ≡ before ps (Some [])
before_end ps = ap Some (sym (append-nil ps))

parts_of-push : (es : List ConcatElement) (e : ConcatElement) → map part_of (es ++ (e ∷ [])) ≡ (map part_of es ++ (part_of e ∷ []))
parts_of-push [] e = refl
parts_of-push (x ∷ es) e = ap (λ ps. part_of x ∷ ps) (parts_of-push es e)

moved : (ps : List Part) (p : Part) (r : Option (List Part)) → before ps (with_part p r) ≡ before (ps ++ (p ∷ [])) r
moved ps p None = refl
moved ps p (Some qs) = ap Some (sym (append_assoc ps (p ∷ []) qs))

-- one part more was read
pub one_more : (news es : List ConcatElement) (e : ConcatElement) (whole old rest : Option (List Part)) → news ≡ es ++ (e ∷ []) →
    whole ≡ before (map part_of es) old → old ≡ with_part (part_of e) rest → whole ≡ before (map part_of news) rest
one_more news es e whole old rest n h step =
    h ∙ ap (before (map part_of es)) step ∙ moved (map part_of es) (part_of e) rest
    ∙ ap (λ ps. before ps rest) (sym (ap (map part_of) n ∙ parts_of-push es e))

-- ---- two parts or more

pub too_few : (es : List ConcatElement) → length es < 2 → None ≡ concat_in (Some (map part_of es))
too_few [] h = refl
too_few (e ∷ []) h = refl
too_few (e ∷ f ∷ es) h = absurd (omega (arith, h))

pub enough : (es : List ConcatElement) → 2 ≤ length es → Some (concat_of (map part_of es)) ≡ concat_in (Some (map part_of es))
enough [] h = absurd (omega (arith, h))
enough (e ∷ []) h = absurd (omega (arith, h))
enough (e ∷ f ∷ es) h = refl
