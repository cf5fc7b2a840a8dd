use Rattle.std.proofs.Common.{◌≡◌, ◌<◌, ◌+◌, ◌∙◌, Some, None, ap, drop, length, rules, subst, sym, Bor}
use Rattle.std.specs.Prelude.{option_map, slice_get}
use Rattle.expander_reparse.proofs.ListLemmas.{stands_at}
use Rattle.expander_scope.specs.Outcomes.{find_of}
use Rattle.expander_scope.specs.declared.outcome.NameLookup.{NameLookup}
use Rattle.expander_session.specs.LookupTrees.{Extends, Leads, branch_of, id_of, lookups_at, lookups_of, turn}
use Rattle.expander_session.specs.Memos.{finds_of}
use Rattle.expander_session.specs.declared.memo.Memo.{Memo}
use Rattle.expander_session.proofs.LookupTreeLemmas.{extends_same, index_more, leads_ended, leads_from, leads_here, name_told, on_ok, same_name, turn_more, turn_put}
use Rattle.expander_session.proofs.lookup_tree.LookupTree.push_from.Goals as goal

pub loop-place-preserved : goal.loop-place-preserved
loop-place-preserved c =
    let within : c.loop-place.place < length c.as_ref-memo.result.now.finds.items = search rules in
    let stands : Some (find_of c.in-Some.own.now) ≡ slice_get (lookups_at c.args.memos.now c.loop-place.at) c.loop-place.place =
    ap (option_map (λ (f : Bor NameLookup). find_of f.now)) (sym c.in-Some.is) ∙ c.lookup_at.ensures.is in
    let turns : turn (branch_of c.args.self.now) c.loop-place.at c.loop-place.place (id_of (find_of c.in-Some.own.now).1) (id_of (find_of c.index-lookup.result.now).1) ≡ Some c.in-Some-turn.next =
    rw (sym c.loop-place.invariant.same, sym c.known_id.ensures, sym c.known_id-known.ensures) (sym c.turn.ensures ∙ c.in-Some-turn.is) in
    record {
      same = c.loop-place.invariant.same;
      leads = λ new more leads.
          c.loop-place.invariant.leads new more
          (leads_from (lookups_at c.args.memos.now) c.as_ref-memo.result.now.finds.items c.loop-place.at c.loop-place.place c.in-Some-turn.next c.index-lookup.result.now
          (find_of c.in-Some.own.now) within c.index-lookup.ensures stands (same_name c.in-Some.own.now.name c.index-lookup.result.now.name (name_told c.in-Some.own.now.name c.index-lookup.result.now.name (sym c.ne.ensures ∙ c.if-ne.false))) new
          (turn_more (branch_of c.args.self.now) new more _ _ _ _ _ turns) leads);
    }

pub returns-in_default : goal.returns-in_default
returns-in_default c =
    let none : slice_get (lookups_at c.args.memos.now c.loop-place.at) c.loop-place.place ≡ None = search rules in
    let here : slice_get c.args.memos.now c.args.index ≡ Some c.index-memos-index.result = stands_at c.args.memos.now c.args.index c.index-memos-index.result c.requires.within c.index-memos-index.is in
    let same = c.loop-place.invariant.same in
    rw same
    (index_more c.args.self.now c.args.self.now c.args.memos.now c.args.index c.index-memos-index.result here (λ w. w) (λ t i e. e) (extends_same (branch_of c.args.self.now))
    (λ w. record {
      start = c.args.first;
      first = c.requires.first c.index-memos-index.result here;
      leads = subst (λ (q : Memo). Leads (branch_of c.args.self.now) (lookups_at c.args.memos.now) (finds_of q) c.args.first 0) c.as_ref-memo.ensures
          (c.loop-place.invariant.leads (branch_of c.args.self.now) (extends_same (branch_of c.args.self.now)) (leads_ended (lookups_at c.args.memos.now) (branch_of c.args.self.now) _ c.loop-place.at c.loop-place.place none));
    }))

pub returns-in-None : goal.returns-in-None
returns-in-None c =
    let within : c.loop-place.place < length c.as_ref-memo.result.now.finds.items = search rules in
    let stands : Some (find_of c.in-Some.own.now) ≡ slice_get (lookups_at c.args.memos.now c.loop-place.at) c.loop-place.place =
    ap (option_map (λ (f : Bor NameLookup). find_of f.now)) (sym c.in-Some.is) ∙ c.lookup_at.ensures.is in
    let here : slice_get c.args.memos.now c.args.index ≡ Some c.index-memos-index.result = stands_at c.args.memos.now c.args.index c.index-memos-index.result c.requires.within c.index-memos-index.is in
    let turns : turn (branch_of c.args.self.now) c.loop-place.at c.loop-place.place (id_of (find_of c.in-Some.own.now).1) (id_of (find_of c.index-lookup.result.now).1) ≡ None =
    rw (sym c.loop-place.invariant.same, sym c.known_id.ensures, sym c.known_id-known.ensures) (sym c.turn.ensures ∙ c.in-None.is) in
    let finds_here : drop (c.loop-place.place + 1) (lookups_at c.args.memos.now c.args.index) ≡ drop (c.loop-place.place + 1) (finds_of c.as_ref-memo.result.now) =
    ap (λ o. drop (c.loop-place.place + 1) (lookups_of o)) here ∙ ap (λ (q : Memo). drop (c.loop-place.place + 1) (finds_of q)) (sym c.as_ref-memo.ensures) in
    on_ok c.branch-self.result c.branch-self.ensures.first c.branch-self.ensures.more c.branch-self.ensures.here c.branch-self.ensures.whole
    (λ firsts more put wholes.
    let extends : Extends (branch_of c.args.self.now) (branch_of c.branch-self.new.self) = rw (sym c.loop-place.invariant.same) more in
    index_more c.args.self.now c.branch-self.new.self c.args.memos.now c.args.index c.index-memos-index.result here
    (λ w. rw (sym c.loop-place.invariant.same) (sym wholes ∙ w)) (λ t i e. firsts t ∙ (rw c.loop-place.invariant.same e)) extends
    (λ w. record {
      start = c.args.first;
      first = firsts _ ∙ rw c.loop-place.invariant.same (c.requires.first c.index-memos-index.result here);
      leads = subst (λ (q : Memo). Leads (branch_of c.branch-self.new.self) (lookups_at c.args.memos.now) (finds_of q) c.args.first 0) c.as_ref-memo.ensures
          (c.loop-place.invariant.leads (branch_of c.branch-self.new.self) extends
          (leads_from (lookups_at c.args.memos.now) c.as_ref-memo.result.now.finds.items c.loop-place.at c.loop-place.place c.args.index c.index-lookup.result.now
          (find_of c.in-Some.own.now) within c.index-lookup.ensures stands (same_name c.in-Some.own.now.name c.index-lookup.result.now.name (name_told c.in-Some.own.now.name c.index-lookup.result.now.name (sym c.ne.ensures ∙ c.if-ne.false))) (branch_of c.branch-self.new.self)
          (turn_put (branch_of c.args.self.now) (branch_of c.branch-self.new.self) _ _ _ _ _ turns (rw (sym c.known_id-known.ensures) put))
          (leads_here (branch_of c.branch-self.new.self) (lookups_at c.args.memos.now) c.args.index (c.loop-place.place + 1) _ finds_here)));
    }))

pub returns-else-is_some : goal.returns-else-is_some
returns-else-is_some c =
    let none : slice_get (lookups_at c.args.memos.now c.loop-place.at) c.loop-place.place ≡ None = search rules in
    let here : slice_get c.args.memos.now c.args.index ≡ Some c.index-memos-index.result = stands_at c.args.memos.now c.args.index c.index-memos-index.result c.requires.within c.index-memos-index.is in
    let same = c.loop-place.invariant.same in
    rw same
    (index_more c.args.self.now c.args.self.now c.args.memos.now c.args.index c.index-memos-index.result here (λ w. w) (λ t i e. e) (extends_same (branch_of c.args.self.now))
    (λ w. record {
      start = c.args.first;
      first = c.requires.first c.index-memos-index.result here;
      leads = subst (λ (q : Memo). Leads (branch_of c.args.self.now) (lookups_at c.args.memos.now) (finds_of q) c.args.first 0) c.as_ref-memo.ensures
          (c.loop-place.invariant.leads (branch_of c.args.self.now) (extends_same (branch_of c.args.self.now)) (leads_ended (lookups_at c.args.memos.now) (branch_of c.args.self.now) _ c.loop-place.at c.loop-place.place none));
    }))
