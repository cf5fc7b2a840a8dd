-- How a walk begins that opens an invariant: it is handed the thread's token, and hands it back. It may call no function. Assumes `Logic`.
--     calls, inner      the tables and the model that such a walk is read over
--     asked             the contract with the token in both its clauses
--     walks_with_token  a walk of that contract proves the contract without the token
use Rattle.std.proofs.Common.{subst}
use seplogic.Ra.Ura.{Ura}
use base.Logic.{SProp, ent, via, fst∗, snd∗}
use base.Mask.{every}
use mir.Syntax.{Fn, Callee}
use prog.Model.{Model}
use prog.Wp.{WpFn, Closed, Tables}
use contract.Beside.{Carries}
use contract.Monad.{fact_use}
use contract.Running.{Running, bare_tables, tables_of}
use sound.WpLaws.{WpFn-mono}
use types.Logic.{Logic, sem}
use denote.RattleType.{owns}
use denote.Laws.{Ises, Are, owns_show, showss}
use denote.Signature.{types_at}
use denote.Triple.Clauses.{Ended, Clauses, closing}
use denote.Triple.Entry.{on_entry, alive}
use denote.Triple.Handed.{holding, hands}
use denote.Triple.Spec.{Meets, triple_of}
use denote.Triple.Table.{entered}
use denote.Triple.Walked.{Stays, AllGo, walk_of, walk_Meets}

module _ {M : Type 1} {𝓤 : Ura M} (𝓛 : Logic 𝓤) (𝓜 : Model 𝓤 𝓛.H) (𝓡 : Running 𝓤 𝓛.H 𝓜) where
  abbrev token : SProp 𝓤
  token = 𝓛.A.tok every

  abbrev pub inner : Carries 𝓤 𝓛.H 𝓜 token
  inner = subst (Carries 𝓤 𝓛.H 𝓜) 𝓛.turn_is 𝓡.carries

  abbrev pub calls : Tables 𝓤 𝓛.H
  calls = tables_of 𝓤 𝓛.H inner.inner (bare_tables 𝓤 𝓛.H inner.inner 𝓡.allowed 𝓡.how 𝓡.env)

  module _ (E : Ended) (stays : Stays E.signature.params E.kept) (c : Clauses 𝓤 E) where
    abbrev pub asked : Clauses 𝓤 E
    asked = holding 𝓤 E token c

    module _ (y : (walk_of 𝓛 E stays asked).Ghost) where
      abbrev Known : Type 0
      Known = Are (types_at E.signature.params y.0.0) (Ises (types_at E.signature.params y.0.0)) y.0.3 y.0.4

      -- what is owned of the arguments tells their form
      tells : ent 𝓤 ((walk_of 𝓛 E stays asked).pre y) (contract.Monad.fact 𝓤 Known)
      tells = via 𝓤 (on_entry 𝓛 E.signature y.0.0 y.0.1 y.0.3 y.0.4) (fst∗ 𝓤 _ ((asked y.0.0 y.0.3).requires y.1))
          (via 𝓤 (sem 𝓛 (owns (types_at E.signature.params y.0.0) y.0.3 y.0.4)) (snd∗ 𝓤 (alive 𝓛 E.signature y.0.0 y.0.1)
          (sem 𝓛 (owns (types_at E.signature.params y.0.0) y.0.3 y.0.4)))
          (owns_show 𝓛 (types_at E.signature.params y.0.0) (Ises (types_at E.signature.params y.0.0))
          (showss 𝓛 (types_at E.signature.params y.0.0)) y.0.3 y.0.4))

    pub walks_with_token : AllGo 𝓛 E.signature.lifetimes E.signature.params E.kept stays → (k : Callee) (e : Fn) → Closed 𝓤 𝓛.H calls.C calls.Λ k e
        → ((y : (walk_of 𝓛 E stays asked).Ghost) → Known y
        → ent 𝓤 ((walk_of 𝓛 E stays asked).pre y) (WpFn 𝓤 𝓛.H calls.C calls.Λ e ((walk_of 𝓛 E stays asked).args y) ((walk_of 𝓛 E stays asked).post y)))
        → Meets 𝓛 E.signature (𝓡.run (𝓡.env k)) (closing 𝓛 E c)
    unfolding tables_of
    walks_with_token gone k e closed walk =
        let meets = walk_Meets 𝓛 E stays gone asked (WpFn 𝓤 𝓛.H calls.C calls.Λ e) (WpFn-mono 𝓤 𝓛.H 𝓛.laws calls e) (λ y. fact_use 𝓤 (Known y)
        (tells y) (walk y)) in
        hands 𝓛 E token c 𝓜 inner 𝓡 (𝓡.env k) (entered 𝓤 𝓛.H (triple_of 𝓛 E.signature (closing 𝓛 E asked)) calls.C calls.Λ k e closed meets)
