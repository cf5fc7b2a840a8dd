-- What the stop of a matcher shows of a rule: whether it is ambiguous.
use Rattle.std.proofs.Common.{◌≡◌, refl, ap, ◌∙◌, Bool, true, false, ◌||◌, List, [], ◌∷◌}
use Rattle.std.proofs.Common.{None, if◌then◌else◌}
use Rattle.std.specs.Prelude.{is_some}
use Rattle.tt_data.specs.Forest.{Forest}
use Rattle.mbe_rules.specs.Items.{Rule}
use Rattle.mbe_matcher.specs.Grammar.{Grammar}
use Rattle.mbe_matcher.specs.Paths.{has_clash, only}
use Rattle.mbe_matcher.specs.Readings.{Move, readings, takings, the_reading}
use Rattle.mbe_matcher.specs.Units.{Place, left}
use Rattle.mbe_matcher.proofs.ClashLemmas.{clash-to}
use Rattle.mbe_explain.specs.Stops.{HasTwoReadings, IsFirstClash, IsUnreadAt}
use Rattle.rule_bindings.specs.Notes.{has_two, is_ambiguous}

one-reading : (b : Bool) (rs : List (List Move)) → is_some (if b then None else only rs) ≡ true
    → (b || has_two rs) ≡ false
one-reading true rs e = absurd (cc e)
one-reading false [] e = absurd (cc e)
one-reading false (a ∷ []) e = refl
one-reading false (a ∷ b ∷ rs) e = absurd (cc e)

with-clash : (b c : Bool) → b ≡ true → (b || c) ≡ true
with-clash b c e = ap (λ x. x || c) e

without-clash : (b c : Bool) → b ≡ false → (b || c) ≡ c
without-clash b c e = ap (λ x. x || c) e

module _ (gr : Grammar) (argument : Forest) (r : Rule) where
  -- not one that matches
  pub not-matching : is_some (the_reading gr r.pattern argument) ≡ true
      → is_ambiguous gr argument r ≡ false
  not-matching e =
      one-reading (has_clash (takings gr r.pattern argument)) (readings gr r.pattern argument) e

  -- nor one by which the argument is not read
  pub not-unread : (p : Place) → IsUnreadAt gr r.pattern argument p
      → is_ambiguous gr argument r ≡ false
  not-unread p w =
      without-clash _ (has_two (readings gr r.pattern argument)) w.clear ∙ ap has_two w.none

  -- one with a clash is
  pub at-clash : (p : Place) → IsFirstClash gr r.pattern argument p
      → is_ambiguous gr argument r ≡ true
  at-clash p w =
      with-clash _ (has_two (readings gr r.pattern argument))
      (clash-to (takings gr r.pattern argument) (left p, w.clashes))

  -- and so is one with two readings
  pub with-two : HasTwoReadings gr r.pattern argument → is_ambiguous gr argument r ≡ true
  with-two w =
      without-clash _ (has_two (readings gr r.pattern argument)) w.clear ∙ ap has_two w.two
