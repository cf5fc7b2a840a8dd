-- Tokens that follow one another in a text: none starts or ends before an earlier one starts.
use Rattle.std.specs.Prelude.{◌≡◌, ℕ, List, [], ◌∷◌}
use Rattle.tt_data.specs.Walk.{Step}
use Rattle.tt_data.specs.declared.span.Span.{Span}
use Rattle.tt_data.specs.declared.span.SyntaxContext.TheVariants.{Written}
use Rattle.bridge.specs.Pieces.{IsFrom}
use Rattle.bridge.specs.Printing.{step_span}

-- none of these events starts or ends before n
abbrev pub AreFrom : ℕ → List Step → Type 0
AreFrom n [] = Unit {0}
AreFrom n (s ∷ more) = IsFrom n (step_span s) × AreFrom n more

-- none starts or ends before the start of an earlier one
abbrev pub FollowOneAnother : List Step → Type 0
FollowOneAnother [] = Unit {0}
FollowOneAnother (s ∷ more) = IsFrom (step_span s).range.start (step_span s) × AreFrom (step_span s).range.start more × FollowOneAnother more

-- a span written in the text itself
abbrev pub IsWritten : Span → Type 0
IsWritten s = (s.anchor ≡ 0) × (s.ctx ≡ Written)

-- each of these events has such a span
abbrev pub AreWritten : List Step → Type 0
AreWritten [] = Unit {0}
AreWritten (s ∷ more) = IsWritten (step_span s) × AreWritten more
