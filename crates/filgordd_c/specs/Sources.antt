-- The sources of a session, and the preludes that are picked out of them.
use Rattle.std.specs.Prelude.{◌≡◌, ℕ, suc, List, [], ◌∷◌, ◌++◌, Bool, ◌&&◌, not, Option, Some}
use Rattle.std.specs.Prelude.{None, ⊤, codes, flat_map, if◌then◌else◌, length, nat_eq, nat_lt, set}
use Rattle.std.specs.Prelude.{slice_get}
use Rattle.tt_data.specs.Forest.{Forest}
use Rattle.tt_data.specs.fault.TtFault.TheVariants as fault
use Rattle.symbols.specs.declared.fault.TtFault.{TtFault}
use Rattle.expander_sources.specs.Homes.{Home}
use Rattle.expander_sources.specs.Picks.{picked, rooted_picks}
use Rattle.expander_sources.specs.Sources.{Item, Source, item_at}
use Rattle.expander_model.specs.Definitions.{has_attribute}
use Rattle.filgordd_c.specs.declared.code.Code.{Code}
use Rattle.filgordd_c.specs.declared.code.Code.TheVariants as code
use Rattle.filgordd_c.specs.declared.sources.Pick.{Pick}

-- ---- sources by number

-- where the source of this number is: behind all of them if there is none
abbrev pub index_of : ℕ → List Source → ℕ
index_of n [] = 0
index_of n (s ∷ ss) = if nat_eq s.number n then 0 else suc (index_of n ss)

-- the sources with one more, in the place of the one of its number if there is one
abbrev pub with_source : Source → List Source → List Source
with_source s ss = if nat_lt (index_of s.number ss) (length ss)
    then set ss (index_of s.number ss) s else ss ++ s ∷ []

abbrev pub source_of : ℕ → List Source → Option Source
source_of n ss = slice_get ss (index_of n ss)

-- ---- picks

-- the index that stands for all definitions
abbrev pub every : ℕ
every = 4294967295

-- whether it is in no inline module, and not built into the compiler
abbrev pub is_open : Item → Bool
is_open i = nat_eq (length i.modules) 0 && not (has_attribute (codes "rustc_builtin_macro") i.piece)

-- such a definition of a crate
abbrev pub open_pick : Option Home → Item → List Forest
open_pick home i = if is_open i then picked home i.piece ∷ [] else []

-- what an index of a source stands for
abbrev pub picked_by : Option Source → ℕ → List Forest
picked_by None index = []
picked_by (Some s) index = if nat_eq index every then flat_map (open_pick s.home) s.items
    else picked s.home (item_at s.items index).piece ∷ []

abbrev pub pieces_of : List Source → Pick → List Forest
pieces_of sources pick = picked_by (source_of pick.source sources) pick.index

-- the definitions of a source of another crate, behind its root
abbrev pub behind : Option Home → List Item → List Forest
behind None items = []
behind (Some h) items = rooted_picks h.root (Some h) items

abbrev pub behind_root : Source → List Forest
behind_root s = behind s.home s.items

-- what is picked, in order, the nearest last, after all that is seen behind roots
abbrev pub prelude_of : List Source → List Pick → List Forest
prelude_of sources picks = flat_map behind_root sources ++ flat_map (pieces_of sources) picks

-- ---- codes

abbrev pub fault_code : TtFault → Code
fault_code fault.Tokens = code.Tokens
fault_code _ = code.Memory

-- whether a source has this index
abbrev pub index_code : Option Source → ℕ → Code
index_code None index = code.Source
index_code (Some s) index = if nat_eq index every then code.Done
    else if nat_lt index (length s.items) then code.Done else code.Index

abbrev pub pick_code : List Source → Pick → Code
pick_code sources pick = index_code (source_of pick.source sources) pick.index

-- what is wrong with the first wrong one
abbrev pub first_wrong : Code → Code → Code
first_wrong code.Done c = c
first_wrong c d = c

abbrev pub picks_code : List Source → List Pick → Code
picks_code sources [] = code.Done
picks_code sources (p ∷ ps) = first_wrong (pick_code sources p) (picks_code sources ps)

-- why there is no prelude: no memory, a definition would have too many tokens, or what is wrong
abbrev pub IsWhyNot : Code → Code → Type 0
IsWhyNot wrong code.Memory = ⊤
IsWhyNot wrong code.Tokens = ⊤
IsWhyNot wrong code.Source = wrong ≡ code.Source
IsWhyNot wrong code.Index = wrong ≡ code.Index
IsWhyNot wrong _ = ⊥
