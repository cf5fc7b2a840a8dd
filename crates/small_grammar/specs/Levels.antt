-- What is left behind a type of which only the beginning is passed, and behind all that is open
-- around it.
use Rattle.std.specs.Prelude.{ℕ, ◌+◌, ◌*◌, Bool, true, false, List, [], ◌∷◌, Option, Some, None, option_and_then, unwrap_or}
use Rattle.tt_data.specs.Forest.{Forest, size}
use Rattle.small_grammar.specs.declared.type_steps.Begun.{Begun}
use Rattle.small_grammar.specs.declared.type_steps.Begun.TheVariants.{Whole, Named, Angle, Arrow}
use Rattle.small_grammar.specs.declared.type_steps.Follow.{Follow}
use Rattle.small_grammar.specs.declared.type_steps.Follow.TheVariants.{Segments, Call, Bounds}
use Rattle.small_grammar.specs.declared.type_steps.Next.{Next}
use Rattle.small_grammar.specs.declared.type_steps.Next.TheVariants.{Part, End}
use Rattle.small_grammar.specs.declared.types.Level.{Level}
use Rattle.small_grammar.specs.declared.types.Level.TheVariants.{Args, Result}
use Rattle.small_grammar.specs.Expressions.{Expression, Taking, ◌⨾◌, ◌∣◌, many, maybe}
use Rattle.small_grammar.specs.SmallGrammar.{takes, type, arrow, arg, generics, seg, bound, group, paren, single}

-- what is left behind an expression if it fits, and otherwise all
abbrev pub after : Expression → Forest → Forest
after e f = unwrap_or (takes e f) f

-- further segments of a path
abbrev pub segments : Expression
segments = many (single "::" ⨾ (seg ∣ generics))

-- what is left behind what follows the last segment
abbrev pub ending : Follow → Forest → Forest
ending Segments f = f
ending Call f = after (single "!" ⨾ group) f
ending Bounds f = after (many (single "+" ⨾ bound)) f

-- what is left behind all that follows a segment
abbrev pub behind : Follow → Forest → Forest
behind follow f = ending follow (after segments f)

-- what is left behind all that follows a result: behind that of `fn (..)` nothing follows
abbrev pub behind_result : Option Follow → Forest → Forest
behind_result None f = f
behind_result (Some follow) f = behind follow f

-- what is left behind arguments and all that follows them, or all if there are none
abbrev pub behind_args : Follow → Forest → Option Forest → Forest
behind_args follow f None = f
behind_args follow f (Some g) = behind follow g

-- what is left behind all that is begun
abbrev pub left : Begun → Forest
left (Whole f) = f
left (Named f follow) = behind follow (after (generics ∣ paren ⨾ arrow) f)
left (Angle f follow) = behind_args follow f (takes (maybe (single "::") ⨾ generics) f)
left (Arrow f follow) = behind_result follow (after (single "->" ⨾ type) f)

-- what comes behind an argument, up to the `>`
abbrev pub closing : Expression
closing = (many (single "," ⨾ arg) ⨾ maybe (single ",")) ⨾ single ">"

-- what is left behind all that goes on, and behind what is open around it
abbrev pub gone : Taking → Option Next → Option Forest
gone around None = None
gone around (Some (Part begun)) = around (left begun)
gone around (Some (End f)) = Some f

-- what is left behind what is open at last: perhaps arguments
abbrev pub outside : Bool → Taking
outside false f = Some f
outside true f = takes closing f

-- what is left behind a level, and behind what is open around that
abbrev pub level : Taking → Level → Taking
level around (Args follow) f = option_and_then (λ g. around (behind follow g)) (takes closing f)
level around (Result follow) f = around (behind_result follow f)

-- what is left behind levels in one another, the outermost first, and behind what is open around them
abbrev pub within : Taking → List Level → Taking
within around [] = around
within around (l ∷ ls) = within (level around l) ls

-- ---- each step has a smaller number than the one before

abbrev pub size_of : Begun → ℕ
size_of (Whole f) = size f
size_of (Named f _) = size f
size_of (Angle f _) = size f
size_of (Arrow f _) = size f

abbrev pub weight : Begun → ℕ
weight (Whole f) = size f * 8 + 1
weight (Named f _) = size f * 8 + 3
weight (Angle f _) = size f * 8 + 2
weight (Arrow f _) = size f * 8 + 3

abbrev pub next_size : Next → ℕ
next_size (Part begun) = size_of begun
next_size (End f) = size f

abbrev pub next_weight : Next → ℕ
next_weight (Part begun) = weight begun
next_weight (End f) = size f * 8
