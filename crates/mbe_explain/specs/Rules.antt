-- What is told of the rules of a definition for a call. (Of this project.)
use Rattle.std.specs.Prelude.{◌≡◌, ◌↔◌, ℕ, suc, Bool, true, false, List, [], ◌∷◌, length, nat_lt}
use Rattle.std.specs.Prelude.{Option, Some, None, is_some, if◌then◌else◌}
use Rattle.std.specs.List.{IsFirstBest, list_any}
use Rattle.tt_data.specs.Forest.{Forest}
use Rattle.tt_data.specs.declared.span.Span.{Span}
use Rattle.mbe_rules.specs.Items.{Items, Rule}
use Rattle.mbe_rules.specs.declared.macro_call_style.MacroCallStyle.{MacroCallStyle}
use Rattle.mbe_matcher.specs.Grammar.{Grammar}
use Rattle.mbe_matcher.specs.Paths.{IsAmong}
use Rattle.mbe_matcher.specs.Places.{place_of}
use Rattle.mbe_matcher.specs.Readings.{the_reading}
use Rattle.mbe_matcher.specs.Units as u
use Rattle.mbe.specs.Bursts.{rule_bursts, template_bursts}
use Rattle.mbe.specs.Fit.{rule_fit, same_style}
use Rattle.mbe_explain.specs.Distances.{span_before_end}
use Rattle.mbe_explain.specs.Stops.{HasTwoReadings, IsFirstClash, IsUnreadAt, IsWantedAt, Wanted}
use Rattle.mbe_explain.specs.Wants.{wants_of}
use Rattle.mbe_explain.specs.declared.explain.Stop.{Stop}
use Rattle.mbe_explain.specs.declared.explain.StopKind.{StopKind}
use Rattle.mbe_explain.specs.declared.explain.StopKind.TheVariants.{Ambiguous, Matches}
use Rattle.mbe_explain.specs.declared.explain.StopKind.TheVariants.{TwoReadings, Unread}
use Rattle.mbe_explain.specs.declared.rules.RuleStop.{RuleStop}

-- what is told of a matcher: why its partial readings stop, where, what is wanted there, how many
-- steps of the argument are left there, and the span of the token that is there
pub record IsStop (gr : Grammar) (pattern : Items) (argument : Forest) (s : Stop) : Type 0 where
  pub matches : s.kind ≡ Matches ↔ is_some (the_reading gr pattern argument) ≡ true
  pub unread : s.kind ≡ Unread → IsUnreadAt gr pattern argument (place_of s.place)
  pub ambiguous : s.kind ≡ Ambiguous → IsFirstClash gr pattern argument (place_of s.place)
  pub two : s.kind ≡ TwoReadings → HasTwoReadings gr pattern argument
  pub wanted : (w : Wanted) →
      IsAmong (Some w) (wants_of s.wanted.items)
      ↔ IsWantedAt gr pattern argument (place_of s.place) w
  pub left : s.left ≡ u.left (place_of s.place)
  pub at : s.at ≡ span_before_end argument (u.left (place_of s.place))

-- the rules of a style, each with its index, where the first of all has index n
abbrev pub of_style : MacroCallStyle → ℕ → List Rule → List (ℕ × Rule)
of_style style n [] = []
of_style style n (r ∷ rs) =
    if same_style style r.style then (n, r) ∷ of_style style (suc n) rs
    else of_style style (suc n) rs

module _ (is_identifier : List ℕ → Bool) (gr : Grammar) (argument : Forest) where
  -- what is told of a rule: its index, how its matcher stops, and whether the rule fits, whatever
  -- spans its transcriber's tokens get
  pub record IsRuleStop (index : ℕ) (rule : Rule) (s : RuleStop) : Type 0 where
    pub number : s.index ≡ index
    pub stop : IsStop gr rule.pattern argument s.stop
    pub fits : (mark : Span → Span) →
        s.fits ≡ is_some (rule_fit is_identifier gr mark rule argument)

  -- one of these is told of each of those rules, in order
  abbrev pub AreTold : List (ℕ × Rule) → List RuleStop → Type 0
  AreTold [] [] = Unit {0}
  AreTold (r ∷ rs) (s ∷ ss) = IsRuleStop r.0 r.1 s × AreTold rs ss
  AreTold _ _ = ⊥

  -- a matcher matches, and the transcriber puts out more tokens than a tree may have
  abbrev pub HasTooMuch : Rule → Type 0
  HasTooMuch r =
      template_bursts is_identifier gr (λ s. s) r (the_reading gr r.pattern argument) ≡ true

  -- one of these rules that has the style does so
  abbrev pub OneHasTooMuch : MacroCallStyle → List Rule → Type 0
  OneHasTooMuch style rules =
      list_any (λ r. rule_bursts is_identifier gr (λ s. s) style r argument) rules ≡ true

-- the index of the first that fits, if one does
abbrev pub first_fitting : List RuleStop → Option ℕ
first_fitting [] = None
first_fitting (s ∷ ss) = if s.fits then Some s.index else first_fitting ss

-- rustc tries no rule after one that stops so: it is read, or it may be read in two ways
abbrev pub ends_search : StopKind → Bool
ends_search Unread = false
ends_search _ = true

-- how far a rule is from where rustc stops: nothing at such a rule, else the steps that are left
abbrev pub distance : RuleStop → ℕ
distance s = if ends_search s.stop.kind then 0 else suc s.stop.left

-- one is nearer than another
abbrev pub is_nearer : RuleStop → RuleStop → Bool
is_nearer s t = nat_lt (distance s) (distance t)

-- the place in a list of the one that is nearest, the first of equals; none if there is none
abbrev pub IsNearest : List RuleStop → Option ℕ → Type 0
IsNearest told None = told ≡ []
IsNearest told (Some k) = IsFirstBest is_nearer told (length told) k
