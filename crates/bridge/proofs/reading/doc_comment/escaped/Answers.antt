-- Up to the next character that is escaped, and from there on.
use Rattle.std.proofs.Common.{◌≡◌, ℕ, ◌+◌, List, ◌++◌, ◌∷◌, [], take, ◌∙◌, ap, sym, subst, Some, None, string_bytes, rules}
use Rattle.std.specs.List.{slice_range}
use Rattle.memchr.specs.Find.{IsFirstByte, is_byte2}
use Rattle.bridge.proofs.EscapeLemmas.{after_marked, escapes_none, escapes_one}
use Rattle.bridge.proofs.reading.doc_comment.escaped.Goals as goal

pub range-requires-in-Some-clause-end_boundary : goal.range-requires-in-Some-clause-end_boundary
range-requires-in-Some-clause-end_boundary c =
    let found = subst (λ hay. IsFirstByte (is_byte2 92 34) hay (Some c.in-Some.at)) c.as_bytes.ensures.value c.in-Some.ensures in
    after_marked c.loop-at.rest.now c.in-Some.at found c.loop-at.invariant.utf8

pub range_from-rest-requires : goal.range_from-rest-requires
range_from-rest-requires c =
    let found = subst (λ hay. IsFirstByte (is_byte2 92 34) hay (Some c.in-Some.at)) c.as_bytes.ensures.value c.in-Some.ensures in
    λ _. after_marked c.loop-at.rest.now c.in-Some.at found c.loop-at.invariant.utf8

pub loop-at-preserved : goal.loop-at-preserved
loop-at-preserved c =
    let found = subst (λ hay. IsFirstByte (is_byte2 92 34) hay (Some c.in-Some.at)) c.as_bytes.ensures.value c.in-Some.ensures in
    let at : ℕ = c.in-Some.at in
    let rest : List ℕ = c.loop-at.rest.now in
    let grown : string_bytes c.push_str-in-Some-2.new.self ≡ ((string_bytes c.loop-at.out ++ take at rest) ++ (92 ∷ [])) ++ slice_range rest at (at + 1) = search rules in
    record {
      utf8 = c.range_from-rest.utf8;
      so_far = rw (grown, c.range_from-rest.ensures.value) (escapes_one rest at found (string_bytes c.loop-at.out) ∙ c.loop-at.invariant.so_far);
    }

pub returns : goal.returns
returns c =
    let none = subst (λ hay. IsFirstByte (is_byte2 92 34) hay None) c.as_bytes.ensures.value c.in_default.ensures in
    rw c.in_ok-push_str-4.ensures.bytes (ap (λ l. string_bytes c.loop-at.out ++ l) (sym (escapes_none c.loop-at.rest.now none)) ∙ c.loop-at.invariant.so_far)
