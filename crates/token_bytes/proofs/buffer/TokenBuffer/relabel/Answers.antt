-- Record by record.
use Rattle.std.proofs.Common.{◌≡◌, ◌∙◌, ◌-◌, ap, arith, length, map, subst, suc, sym}
use Rattle.token_bytes.specs.Anchors.{answer_of}
use Rattle.token_bytes.proofs.MarkLemmas.{length-tokens_in}
use Rattle.token_bytes.specs.Relabelled.{renamed_token}
use Rattle.token_bytes.specs.Starts.{AreStarts}
use Rattle.token_bytes.proofs.RelabelLemmas.{RelabelledTo, alike_renamed, all_done, none_yet, turn}
use Rattle.token_bytes.proofs.StartLemmas.{starts_alike, starts_held}
use Rattle.token_bytes.proofs.buffer.TokenBuffer.relabel.Goals as goal

pub loop-left-init : goal.loop-left-init
loop-left-init c =
    let n = c.self.inside.count in
    let bytes = c.self.inside.stored.records in
    let table = c.self.inside.stored.texts.texts.items in
    let h = answer_of c.args.renaming.now in
    let none : n - n ≡ 0 = omega arith in (
      subst (λ k. RelabelledTo h c.args.self.now k 0 n bytes table) (sym none)
          (none_yet h c.args.self.now n bytes table c.self.invariant.0 c.self.view_is),
      omega arith,
      c.self.invariant.1,
      sym (length-tokens_in n table bytes) ∙ ap length c.self.view_is,
      subst (AreStarts 64 c.self.inside.stored.starts.items) c.self.view_is c.self.invariant.2,
    )

pub relabel_record-at-requires-clause-record : goal.relabel_record-at-requires-clause-record
relabel_record-at-requires-clause-record c =
    (turn _ _ _ _ _ _ _ c.loop-left.invariant.0 c.loop-left.invariant.3
    (omega (arith, c.loop-left.invariant.1, c.loop-left-test.true))).there

pub loop-left-preserved : goal.loop-left-preserved
loop-left-preserved c =
    let h = answer_of c.args.renaming.now in
    let s = c.loop-left.self-inside in
    let table = s.stored.texts.texts.items in
    let new = c.relabel_record-at.new.records in
    let t = turn h c.args.self.now (s.count - c.loop-left.left) c.loop-left.at s.count s.stored.records table
    c.loop-left.invariant.0 c.loop-left.invariant.3 (omega (arith, c.loop-left.invariant.1, c.loop-left-test.true)) in
    let on : suc (s.count - c.loop-left.left) ≡ s.count - (c.loop-left.left - 1) = omega (arith, c.loop-left.invariant.1, c.loop-left-test.true) in (
      subst (λ k. RelabelledTo h c.args.self.now k c.relabel_record-at.result s.count new table) on
          (t.after new c.relabel_record-at.result (c.relabel_record-at.ensures.bytes t.there) (c.relabel_record-at.ensures.next t.there)),
      omega (arith, c.loop-left.invariant.1),
      c.loop-left.invariant.2,
      c.loop-left.invariant.3,
      c.loop-left.invariant.4,
    )

pub returns : goal.returns
returns c =
    let h = answer_of c.args.renaming.now in
    let s = c.loop-left.self-inside in
    let all : s.count - c.loop-left.left ≡ length c.args.self.now = omega (arith, c.loop-left-test.false, c.loop-left.invariant.3) in
    (all_done h c.args.self.now (s.count - c.loop-left.left) c.loop-left.at s.count s.stored.records s.stored.texts.texts.items all c.loop-left.invariant.0).shown

pub invariant_of-self : goal.invariant_of-self
invariant_of-self c =
    let h = answer_of c.args.renaming.now in
    let s = c.loop-left.self-inside in
    let ts = c.args.self.now in
    let all : s.count - c.loop-left.left ≡ length ts = omega (arith, c.loop-left-test.false, c.loop-left.invariant.3) in
    let held = all_done h ts (s.count - c.loop-left.left) c.loop-left.at s.count s.stored.records s.stored.texts.texts.items all c.loop-left.invariant.0 in
    let kept = starts_alike 64 s.stored.starts.items ts (map (renamed_token h) ts) (alike_renamed h ts) c.loop-left.invariant.4 in
    (held.packed, c.loop-left.invariant.2, starts_held (map (renamed_token h) ts) _ _ _ _ held kept)
