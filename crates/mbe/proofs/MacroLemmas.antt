-- A definition has at most as many rules as tokens.
use Rattle.std.proofs.Common.{◌≡◌, refl, ℕ, zero, suc, ◌+◌, ◌<◌, ◌≤◌, ◌^◌, Bool, true, false, List, [], ◌∷◌, length, Option, Some, None, Ok, Err, if◌then◌else◌, arith}
use Rattle.std.specs.List.{list_any}
use Rattle.tt_data.specs.Forest.{Forest, empty, leaf, group, size}
use Rattle.tt_data.specs.declared.edition.Edition.{Edition}
use Rattle.tt_data.specs.declared.span.SyntaxContext.{SyntaxContext}
use Rattle.mbe_rules.specs.Items.{Rule, Rules, has_empty_round}
use Rattle.mbe_rules.specs.Parsed.{Parsed}
use Rattle.mbe_rules.specs.declared.errors.ParseError.{ParseError}
use Rattle.mbe_rules.specs.declared.errors.ParseError.TheVariants.{RepetitionEmptyTokenTree}
use Rattle.mbe_rules.specs.Parsing.{Delimiting, by_semicolon, by_semicolon_or_comma, no_rules, delimited, rule_then, rule_of, rule_at, rule_shape, rules_with, rules_after, ending, macro_rules_of, macro_of}
use Rattle.mbe_rules.specs.Trees.{Sign, punct, name, literal, bracketed, past, signs}
use Rattle.mbe_rules.specs.declared.macro_call_style.MacroCallStyle.{MacroCallStyle}
use Rattle.mbe_rules.specs.declared.macro_call_style.MacroCallStyle.TheVariants.{FnLike}
use Rattle.mbe.specs.Kept.{IsOfDefinition}

chosen-few : (b : Bool) (r : Rules) (e : Option ParseError) (n : ℕ) → length r.list ≤ n → length (if b then r else no_rules e).list ≤ n
chosen-few true r e n h = h
chosen-few false r e n h = omega arith

delimited-few : (between : Delimiting) (ts : List Sign) (more : Rules) (n : ℕ) → length more.list ≤ n → length (delimited between ts more).list ≤ n
delimited-few between [] more n h = omega arith
delimited-few between (punct c ∷ ts) more n h = chosen-few (between.is_between c) more (Some between.fault) n h
delimited-few between (name w ∷ ts) more n h = omega arith
delimited-few between (literal w s ∷ ts) more n h = omega arith
delimited-few between (bracketed ∷ ts) more n h = omega arith

then-few : (p : Parsed Rule) (more : Rules) (n : ℕ) → length more.list ≤ n → length (rule_then p more).list ≤ suc n
then-few (Err e) more n h = omega arith
then-few (Ok r) more n h = omega (arith, h)

module _ (edition : SyntaxContext → Edition) (between : Delimiting) where
  with-few : (f : Forest) (after : ℕ → Rules) (n : ℕ) → ((k : ℕ) → length (after k).list ≤ n) → (shape : Parsed (MacroCallStyle × ℕ)) →
      length (rules_with edition between f after shape).list ≤ suc n
  with-few f after n h (Err e) = omega arith
  with-few f after n h (Ok s) =
      then-few (rule_at edition f s) _ n (delimited-few between (signs (past (s.1 + 4) f)) (after (s.1 + 4)) n (h (s.1 + 4)))

  after-few : (skip : ℕ) (f : Forest) → length (rules_after edition between skip f).list ≤ size f
  after-few skip empty = omega arith
  after-few (suc skip) (leaf l rest) = let h = after-few skip rest in omega (arith, h)
  after-few (suc skip) (group d inner rest) = let h = after-few skip rest in omega (arith, h)
  after-few zero (leaf l rest) =
      let h = with-few (leaf l rest) (λ n. rules_after edition between n rest) (size rest) (λ k. after-few k rest) (rule_shape (signs (leaf l rest))) in
      omega (arith, h)
  after-few zero (group d inner rest) =
      let h = with-few (group d inner rest) (λ n. rules_after edition between n rest) (size rest) (λ k. after-few k rest) (rule_shape (signs (group d inner rest))) in
      omega (arith, h)

-- and if none has a fault, none goes round without end
ending-sound : (r : Rules) (n : ℕ) → length r.list ≤ n → n < 2 ^ 32 → IsOfDefinition (ending r)
ending-sound r n h k = go (list_any (λ x. has_empty_round x.pattern) r.list) refl
  where
    go : (b : Bool) → list_any (λ x. has_empty_round x.pattern) r.list ≡ b → IsOfDefinition (if b then record r { err = Some RepetitionEmptyTokenTree } else r)
    go true e = (omega (arith, h, k), λ none. absurd (cc none))
    go false e = (omega (arith, h, k), λ none. e)

pub macro_rules-sound : (edition : SyntaxContext → Edition) (f : Forest) (rules : Rules) → rules ≡ macro_rules_of edition f → size f < 2 ^ 32 → IsOfDefinition rules
macro_rules-sound edition f rules e h = rw e (ending-sound (rules_after edition by_semicolon 0 f) (size f) (after-few edition by_semicolon 0 f) h)

pub macro-sound : (edition : SyntaxContext → Edition) (arguments : Option Forest) (f : Forest) (rules : Rules) → rules ≡ macro_of edition arguments f → size f < 2 ^ 32 →
    IsOfDefinition rules
macro-sound edition None f rules e h = rw e (ending-sound (rules_after edition by_semicolon_or_comma 0 f) (size f) (after-few edition by_semicolon_or_comma 0 f) h)
macro-sound edition (Some a) f rules e h =
    rw e (ending-sound (rule_then (rule_of edition FnLike a f) (no_rules None)) 1 (then-few (rule_of edition FnLike a f) (no_rules None) 0 (omega arith)) (omega arith))
