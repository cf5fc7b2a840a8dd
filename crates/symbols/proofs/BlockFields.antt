-- A counted block as its count and the rest, and back. Assumes `Logic`.
use Rattle.std.proofs.Common.{ℕ, ◌+◌, List, [], ◌∷◌}
use seplogic.Ra.Ura.{Ura}
use base.Fraction.{full_share}
use base.Fml.{Fml}
use base.Logic.{ent, sep, id⊢}
use mir.Syntax.{w64, ty_int}
use types.Logic.{Logic, sem}
use types.Kit.{‵, ◌⊛◌, ◌$◌, ◌∵◌, !, qed, move, keep, use1, use2, split, fsplit, fsplit3, fjoin, fjoin3, done}
use denote.RattleType.{RattleType, Denots}
use denote.Builtin.{usize}
use denote.Memory.{lone, part_at, part_of}
use denote.Param.{param}
use denote.Param.Laws.{Laws, param_laws}
use denote.Plain.{uint_in, uint_out}
use denote.RawPtr.{Ptr, block_ptr}
use denote.Steps.{nothing}
use denote.Struct.Laws.{u64-laws}
use denote.Struct.Members.{Member, rows_of, parts_at, lawful_Lones}
use denote.Struct.Parts.{shape_of, Struct-left, left_Struct}
use denote.Struct.Struct.{Struct}
use Rattle.symbols.specs.SharedBlock.{left_at, block_type, field_types, rest}
use Rattle.bare_box.specs.BareBox.{bare_owns}
use Rattle.symbols.specs.contracts.rc.shared.Block as blocks
use Rattle.symbols.proofs.CountedBlock.{word_at}

module _ (T : RattleType) where
  abbrev pub Block : RattleType
  Block = blocks.the_row (param 0 T)

  -- its fields, one by one
  abbrev fields : List Member
  fields = record { row = usize; ty = ty_int w64 } ∷ record { row = param 0 T; ty = lone (param 0 T).mir } ∷ []

  abbrev Fields : RattleType
  Fields = Struct (shape_of [] fields)

  abbrev each : Block.Denot → Denots (rows_of fields)
  each d = (d.owners, (d.value, tt))

  module _ (L : Laws T) {M : Type 1} {𝓤 : Ura M} (𝓛 : Logic 𝓤) (b o : ℕ) (d : Block.Denot) where
    abbrev c : Ptr
    c = block_ptr b o

    abbrev left : Fml
    left = left_at (block_type (param 0 T) c d.value) (field_types (param 0 T) c d.value) c

    as_fields : ent 𝓤 (sem 𝓛 (part_at Block full_share d b o)) (sem 𝓛 (part_at Fields full_share (each d) b o))
    unfolding part_of
    as_fields = id⊢ 𝓤 _

    as_block : ent 𝓤 (sem 𝓛 (part_at Fields full_share (each d) b o)) (sem 𝓛 (part_at Block full_share d b o))
    unfolding part_of
    as_block = id⊢ 𝓤 _

    pub apart : ent 𝓤 (sem 𝓛 (bare_owns Block c d)) (sep 𝓤 (sem 𝓛 (word_at b o d.owners)) (sem 𝓛 (rest (param 0 T) c d.value)))
    apart = qed 𝓛 (‵ (bare_owns Block c d) ∷ []) ∵ fsplit ! $ use1 𝓛 (‵ (part_at Fields full_share (each d) b o)) as_fields $
        use1 𝓛 (‵ (parts_at full_share fields 0 (each d) b o) ⊛ ‵ left) (Struct-left 𝓛 full_share [] fields (lawful_Lones 𝓛 fields (
          u64-laws.lawful 𝓛,
          ((param_laws 0 T L).lawful 𝓛, tt),
        )) (each d) b o) $ split ! $ fsplit3 ! $
        -- [the count; the value; nothing; what is left; the right to free]
        use1 𝓛 (‵ (word_at b o d.owners)) (uint_out 𝓛 full_share w64 d.owners b (o + 0)) $ move ! (1 ∷ 3 ∷ 4 ∷ []) $ fjoin3 ! $ move ! (1 ∷ []) $
        keep ! (0 ∷ 1 ∷ []) $ done !

    pub together : ent 𝓤 (sep 𝓤 (sem 𝓛 (word_at b o d.owners)) (sem 𝓛 (rest (param 0 T) c d.value))) (sem 𝓛 (bare_owns Block c d))
    together = qed 𝓛 (‵ (word_at b o d.owners) ∷ ‵ (rest (param 0 T) c d.value) ∷ []) ∵
        use1 𝓛 (‵ (part_at usize full_share d.owners b (o + 0))) (uint_in 𝓛 full_share w64 d.owners b (o + 0)) $ move ! (1 ∷ []) $ fsplit3 ! $
        -- [the value; what is left; the right to free; the count]
        nothing ! $ move ! (4 ∷ 1 ∷ 0 ∷ []) $ fjoin3 ! $ move ! (0 ∷ 1 ∷ []) $
        use2 𝓛 (‵ (part_at Fields full_share (each d) b o)) (left_Struct 𝓛 full_share [] fields (each d) b o) $
        use1 𝓛 (‵ (part_at Block full_share d b o)) as_block $ fjoin ! $ done !
