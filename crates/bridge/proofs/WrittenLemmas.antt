-- The spans of what is read from a text are in the text.
use Rattle.std.proofs.Common.{ℕ, List, [], ◌∷◌, ◌++◌, map, refl, subst}
use Rattle.std.specs.Prelude.{chars}
use Rattle.rustc_lexer.specs.Lexing.{tokens_of}
use Rattle.rustc_lexer.specs.declared.token.DocStyle.TheVariants.{Outer, Inner}
use Rattle.tt_data.specs.Forest.{Forest}
use Rattle.tt_data.specs.Walk.{Step, walk}
use Rattle.bridge.specs.declared.reading.classify.TokenClass.{TokenClass}
use Rattle.bridge.specs.declared.reading.classify.TokenClass.TheVariants.{Blank, Name, Mark, Opening, Closing, QuotedName, Doc, Value, Neither}
use Rattle.bridge.specs.Order.{AreWritten, IsWritten}
use Rattle.bridge.specs.Printing.{step_span}
use Rattle.bridge.specs.Reading.{IsReading, PlacedToken, TextStep, bad, placed_from, step}
use Rattle.bridge.specs.TokenSteps.{class_of, steps_of, steps_of_class, text_steps}

-- each step that is read, faults aside
abbrev AreRead : List TextStep → Type 0
AreRead [] = Unit {0}
AreRead (step s ∷ more) = IsWritten (step_span s) × AreRead more
AreRead (bad range ∷ more) = AreRead more

both_read : (xs ys : List TextStep) → AreRead xs → AreRead ys → AreRead (xs ++ ys)
both_read [] ys h k = k
both_read (step s ∷ xs) ys h k = (h.0, both_read xs ys h.1 k)
both_read (bad range ∷ xs) ys h k = both_read xs ys h k

class_read : (class : TokenClass) (t : PlacedToken) (more : List PlacedToken) → AreRead (steps_of_class class t more)
class_read Blank t more = tt
class_read (Name raw) t more = ((refl, refl), tt)
class_read (Mark c) t more = ((refl, refl), tt)
class_read (Opening k) t more = ((refl, refl), tt)
class_read (Closing k) t more = ((refl, refl), tt)
class_read QuotedName t more = ((refl, refl), ((refl, refl), tt))
class_read (Doc Outer is_block) t more = ((refl, refl), ((refl, refl), ((refl, refl), ((refl, refl), ((refl, refl), ((refl, refl), tt))))))
class_read (Doc Inner is_block) t more =
    ((refl, refl), ((refl, refl), ((refl, refl), ((refl, refl), ((refl, refl), ((refl, refl), ((refl, refl), tt)))))))
class_read (Value f at) t more = ((refl, refl), tt)
class_read Neither t more = tt

all_read : (ts : List PlacedToken) → AreRead (steps_of ts)
all_read [] = tt
all_read (t ∷ more) = both_read (steps_of_class (class_of t.kind) t more) (steps_of more) (class_read (class_of t.kind) t more) (all_read more)

walked : (steps : List Step) → AreRead (map step steps) → AreWritten steps
walked [] h = tt
walked (s ∷ more) h = (h.0, walked more h.1)

pub written : (text : List ℕ) (f : Forest) → IsReading (text_steps text) f → AreWritten (walk f)
written text f is = walked (walk f) (subst AreRead is (all_read (placed_from 0 text (tokens_of (chars text)))))
