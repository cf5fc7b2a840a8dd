use Rattle.std.proofs.Common.{◌≡◌, arith, sym, ◌∙◌, inl, inr, refl}
use Rattle.std.proofs.lemmas.Bool.{cases_lt}
use Rattle.tt.proofs.CursorLemmas.{stood}
use Rattle.tt.proofs.CursorReads.{head_found, head_some, none_around}
use Rattle.tt.proofs.buffer.Cursor.head.Goals as goal

pub head_before-requires : goal.head_before-requires
head_before-requires c =
    let stands = stood _ _ _ _ c.self.view_is c.self.invariant.0 in
    record { marked = c.self.invariant.2.begins; head = λ some. head_some _ _ _ _ stands some }

pub returns : goal.returns
returns c =
    let stands = stood _ _ _ _ c.self.view_is c.self.invariant.0 in
    elim (cases_lt 0 c.self.inside.start.count) [
      | inl some ↦ c.head_before.ensures.some some ∙ head_found _ _ _ _ _ stands refl some
      | inr le ↦
          let none : c.self.inside.start.count ≡ 0 = omega (arith, le) in
          c.head_before.ensures.none none ∙ sym (none_around _ _ _ _ stands none)
    ]
