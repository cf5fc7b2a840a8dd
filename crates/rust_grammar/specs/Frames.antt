-- The nodes that are open around a place of the table, the innermost first: what comes of all of
-- them, and how many turns of the interpreter that takes.
use Rattle.std.specs.Prelude.{ℕ, suc, zero, ◌+◌, Bool, true, false, ◌&&◌, nat_lt, length, refl, List, [], ◌∷◌}
use Rattle.std.specs.Coded.{Coded, code_by, coded×, coded_ℕ, coded_bool}
use Rattle.tt_data.specs.Coded.{forest_code}
use Rattle.tt_data.specs.Forest.{Forest, size}
use Rattle.tt_data.specs.declared.edition.Edition.{Edition}
use Rattle.rust_grammar.specs.Answer.{rules_to}
use Rattle.rust_grammar.specs.Expressions.{Expression, token, since, ◌⨾◌, ◌∣◌, many, maybe, surely, unless, rule, Taking, and_then, otherwise, or_nothing, decided, without, next_round, taken}
use Rattle.rust_grammar.specs.Names.{Name}
use Rattle.rust_grammar.specs.Rules.{says}
use Rattle.rust_grammar.specs.Table.{expression_at, node_at, comes_at}
use Rattle.rust_grammar.specs.declared.node.At.{At}
use Rattle.rust_grammar.specs.declared.node.Node.{Node}
use Rattle.rust_grammar.specs.declared.node.Node.TheVariants as node
use Rattle.rust_grammar.specs.declared.outcome.Outcome.{Outcome}
use Rattle.rust_grammar.specs.declared.outcome.Outcome.TheVariants.{Fits, Misses, Faults}

-- a node whose first part is being read, and the trees before it if they are kept
pub record Frame : Type 0 where
  pub at : At
  pub keeps : Bool
  pub trees : Forest

abbrev pub frame : At → Bool → Forest → Frame
frame at keeps trees = record { at = at; keeps = keeps; trees = trees }

-- a frame is stored as the tuple of its parts
abbrev pub frame_code : Coded Frame
frame_code =
    code_by (ℕ × (ℕ × (Bool × Forest))) (coded× coded_ℕ (coded× coded_ℕ (coded× coded_bool forest_code)))
    (λ fr. (fr.at.place, (fr.at.levels, (fr.keeps, fr.trees))))
    (λ p. frame (record { place = p.0; levels = p.1.0 }) p.1.1.0 p.1.1.1) (λ _. refl)

-- for how many of them trees are kept
abbrev pub kept_in : List Frame → ℕ
kept_in [] = 0
kept_in (fr ∷ frs) = elim fr.keeps [ true ↦ suc (kept_in frs) | false ↦ kept_in frs ]

-- there is room for one more
abbrev pub has_room : List Frame → Bool
has_room frs = nat_lt (length frs) 64 && nat_lt (kept_in frs) 32

-- ---- what comes of them

-- what comes of an open node, by what came of its first part
abbrev pub behind : Edition → Frame → Node → Outcome → Outcome
behind ed fr (node.Then n) o = and_then (comes_at ed fr.at.levels (fr.at.place + n)) o
behind ed fr (node.Or n) o = otherwise o (comes_at ed fr.at.levels (fr.at.place + n)) fr.trees
behind ed fr node.Many o = next_round (comes_at ed fr.at.levels fr.at.place) o fr.trees
behind ed fr node.Maybe o = or_nothing o fr.trees
behind ed fr node.Surely o = decided o
behind ed fr node.Unless o = without o fr.trees
behind ed fr _ o = o

abbrev pub behind_frame : Edition → Frame → Outcome → Outcome
behind_frame ed fr o = behind ed fr (node_at fr.at.place) o

abbrev pub behind_all : Edition → List Frame → Outcome → Outcome
behind_all ed [] o = o
behind_all ed (fr ∷ frs) o = behind_all ed frs (behind_frame ed fr o)

-- ---- turns

abbrev pub if_fits : (Forest → ℕ) → Outcome → ℕ
if_fits n (Fits g) = n g
if_fits n Misses = 0
if_fits n Faults = 0

abbrev pub if_misses : ℕ → Outcome → ℕ
if_misses n (Fits g) = 0
if_misses n Misses = n
if_misses n Faults = 0

abbrev pub turns_of_rounds : ℕ → (Forest → ℕ) → Taking → Forest → ℕ
turns_of_rounds zero n p f = 1
turns_of_rounds (suc k) n p f = 2 + (n f + if_fits (turns_of_rounds k n p) (p f))

-- the turns for an expression, given those for the rules
abbrev pub turns : Edition → (Name → Taking) → (Name → Forest → ℕ) → Expression → Forest → ℕ
turns ed r n (token t) f = 1
turns ed r n (since first) f = 1
turns ed r n (a ⨾ b) f = 2 + (turns ed r n a f + if_fits (turns ed r n b) (taken ed r a f))
turns ed r n (a ∣ b) f = 2 + (turns ed r n a f + if_misses (turns ed r n b f) (taken ed r a f))
turns ed r n (many a) f = turns_of_rounds (suc (size f)) (turns ed r n a) (taken ed r a) f
turns ed r n (maybe a) f = 2 + turns ed r n a f
turns ed r n (surely a) f = 2 + turns ed r n a f
turns ed r n (unless a) f = 2 + turns ed r n a f
turns ed r n (rule k) f = 1 + n k f

abbrev pub turns_to : Edition → ℕ → Name → Forest → ℕ
turns_to ed zero k f = 0
turns_to ed (suc levels) k f = turns ed (rules_to ed levels) (turns_to ed levels) (says k) f

abbrev pub turns_at : Edition → ℕ → ℕ → Forest → ℕ
turns_at ed levels place f = turns ed (rules_to ed levels) (turns_to ed levels) (expression_at place) f

-- the turns behind an open node's first part
abbrev pub turns_behind : Edition → Frame → Node → Outcome → ℕ
turns_behind ed fr (node.Then n) o = if_fits (turns_at ed fr.at.levels (fr.at.place + n)) o
turns_behind ed fr (node.Or n) o = if_misses (turns_at ed fr.at.levels (fr.at.place + n) fr.trees) o
turns_behind ed fr node.Many o = if_fits (turns_at ed fr.at.levels fr.at.place) o
turns_behind ed fr _ o = 0

abbrev pub turns_behind_all : Edition → List Frame → Outcome → ℕ
turns_behind_all ed [] o = 0
turns_behind_all ed (fr ∷ frs) o =
    1 + (turns_behind ed fr (node_at fr.at.place) o + turns_behind_all ed frs (behind_frame ed fr o))
