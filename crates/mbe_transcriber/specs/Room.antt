-- Room for more tokens in a tree under construction
use Rattle.std.specs.Prelude.{◌≡◌, ◌<◌, ◌+◌, ◌⊎◌}
use Rattle.tt.specs.Building.{Building, count_of, most_tokens}
use Rattle.tt_data.specs.Forest.{Forest, size}
use Rattle.tt_data.specs.fault.TtFault.{TtFault}
use Rattle.tt_data.specs.fault.TtFault.TheVariants.{Memory, Tokens}

-- memory ran out, or the tree would have too many tokens
abbrev pub IsWantOfRoom : TtFault → Type 0
IsWantOfRoom fault = (fault ≡ Memory) ⊎ (fault ≡ Tokens)

-- with these trees added, the tree would have more tokens than it may
abbrev pub LacksRoom : Building → Forest → Type 0
LacksRoom b f = most_tokens < count_of b + size f
