-- Which definitions are in scope by their place. (The Rust Reference, "Macros By Example": textual
-- scope, the `macro_use` attribute.)
use Rattle.std.specs.Prelude.{ℕ, Bool, true, false, not, nat_eq, List, [], ◌∷◌, ◌++◌, Option, Some, None, filter, option_map, unwrap_or, if◌then◌else◌}
use Rattle.crate_walk.specs.Files.{Files, event_of}
use Rattle.crate_walk.specs.declared.event.Event.{Event}
use Rattle.crate_walk.specs.declared.event.Event.TheVariants as event
use Rattle.crate_walk.specs.declared.step.Place.{Place}
use Rattle.crate_walk.specs.declared.step.Step.{Step}
use Rattle.crate_walk.specs.declared.step.Step.TheVariants as step

-- an item that is in scope from its place on: a `macro_rules`, or a crate whose macros are used
abbrev pub is_scoped : Event → Bool
is_scoped (event.Macro m) = not m.is_macro
is_scoped (event.Crate c) = c.keeps_macros
is_scoped e = false

-- a module whose definitions stay in scope after it
abbrev pub keeps_macros : Event → Bool
keeps_macros (event.Outline m) = m.keeps_macros
keeps_macros (event.Inline m n) = m.keeps_macros
keeps_macros e = false

-- an item that says so of the module that it is in
abbrev pub keeps_own : Event → Bool
keeps_own event.MacroUse = true
keeps_own e = false

-- a test of the event at a place
abbrev pub holds_at : (Event → Bool) → Files → Place → Bool
holds_at test files p = unwrap_or (option_map test (event_of files p)) false

-- a module that is begun: what was in scope before it, whether its definitions stay in scope, and
-- the number of its file, if it has one of its own
pub record Begun : Type 0 where
  pub before : List Place
  pub keeps : Bool
  pub file : Option ℕ

-- what is in scope, the nearest last, and the modules that are begun, the innermost first
pub record Scope : Type 0 where
  pub places : List Place
  pub begun : List Begun

-- a module begins
abbrev pub begins : Scope → Bool → Option ℕ → Scope
begins s keeps file = record {
  places = s.places;
  begun = record { before = s.places; keeps = keeps; file = file } ∷ s.begun;
}

-- the innermost module ends
abbrev pub ends : List Place → List Begun → Scope
ends places [] = record { places = places; begun = [] }
ends places (o ∷ os) = record { places = if o.keeps then places else o.before; begun = os }

-- the definitions of the innermost module stay in scope after it
abbrev pub kept : List Begun → List Begun
kept [] = []
kept (o ∷ os) = record o { keeps = true } ∷ os

-- an item that is no module is in scope, or keeps its module's definitions there, or neither
abbrev pub passed : Scope → Place → Bool → Bool → Scope
passed s p scoped true = record { places = s.places; begun = kept s.begun }
passed s p true false = record { places = s.places ++ p ∷ []; begun = s.begun }
passed s p false false = s

-- what is in scope after a step
abbrev pub after : Files → Scope → Step → Scope
after files s (step.Item p) = passed s p (holds_at is_scoped files p) (holds_at keeps_own files p)
after files s (step.Inline p) = begins s (holds_at keeps_macros files p) None
after files s (step.File p k) = begins s (holds_at keeps_macros files p) (Some k)
after files s (step.Lack p why) = s
after files s step.End = ends s.places s.begun

-- the definitions of other files that a file sees
pub record FilePicks : Type 0 where
  pub file : ℕ
  pub places : List Place

-- those in scope at its end
abbrev pub picks_of : ℕ → List Place → FilePicks
picks_of k places =
    record { file = k; places = filter (λ (p : Place). not (nat_eq p.file k)) places }

-- where the file of a module ends, if it has one of its own
abbrev pub picks_where : List Place → Option ℕ → List FilePicks
picks_where places None = []
picks_where places (Some k) = picks_of k places ∷ []

-- where the innermost module ends
abbrev pub picks_at_end : List Place → List Begun → List FilePicks
picks_at_end places [] = []
picks_at_end places (o ∷ os) = picks_where places o.file

-- at a step
abbrev pub picks_at : Scope → Step → List FilePicks
picks_at s step.End = picks_at_end s.places s.begun
picks_at s other = []

-- at some steps, one after another
abbrev pub picks_from : Files → Scope → List Step → List FilePicks
picks_from files s [] = []
picks_from files s (x ∷ xs) = picks_at s x ++ picks_from files (after files s x) xs

-- at the beginning of the root, the file 0
abbrev pub at_root : Scope
at_root = record {
  places = [];
  begun = record { before = []; keeps = false; file = Some 0 } ∷ [];
}
