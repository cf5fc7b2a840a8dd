use Rattle.std.proofs.Common.{ap, sym, ◌∙◌, ◌++◌, List, append_assoc, arith, length, length-append}
use Rattle.tt_data.specs.Forest.{Forest}
use Rattle.crate_picks.specs.SourcePicks.{behind_own}
use Rattle.replay_script.specs.SourceTables.{source_in}
use Rattle.replay_script.proofs.PushLemmas.{pick_made}
use Rattle.replay_script.proofs.sources.Sources.push_pick.Goals as goal

pub returns : goal.returns
returns c =
    let named = rw c.if-not-branch.false at c.in_ok-push_named.ensures in
    let rooted : List Forest = behind_own c.in-Some.source.now in (
      record { named = named.0; rooted = rooted },
      pick_made (source_in c.args.self.now) c.args.pick.now c.in-Some.source.now named.0 (sym c.in-Some.ensures) named.1,
      c.in_ok-push_behind.ensures ∙ ap (λ (ns : List Forest). ns ++ rooted) named.2 ∙ append_assoc c.args.picked.now.prelude named.0 rooted,
      omega (arith, c.len.ensures, c.len-before.ensures, ap length named.2, length-append c.args.picked.now.prelude named.0),
    )
