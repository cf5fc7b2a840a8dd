use Rattle.std.proofs.Common.{sym, subst, ◌∙◌}
use Rattle.replay_script.specs.Words.{IsHome}
use Rattle.replay_script.proofs.EditLemmas.{text_wrong}
use Rattle.replay_script.proofs.WordLemmas.{cut_same, without_mark}
use Rattle.replay_script.proofs.line.source_of.Goals as goal

pub returns-in_default-cut_at : goal.returns-in_default-cut_at
returns-in_default-cut_at c = (
  c.in-Some.rest.now,
  record { number = c.in-Some.number; numbered = c.in-Some.ensures.0; is_number = c.in-Some.ensures.1 },
  λ home last h. without_mark 32 c.in-Some.rest.now h.0 last c.in_default-cut_at.ensures h.1,
)

pub returns-in_default-2 : goal.returns-in_default-2
returns-in_default-2 c = (
  c.in-Some.rest.now,
  record { number = c.in-Some.number; numbered = c.in-Some.ensures.0; is_number = c.in-Some.ensures.1 },
  λ home last h.
      let same = cut_same 32 h.0 last c.in-Some-cut_at.word.now c.in-Some-cut_at.last.now (sym h.1 ∙ c.in-Some-cut_at.ensures.0) h.2 c.in-Some-cut_at.ensures.1 in
      (rw c.in_default-2.is at c.in_ok-home.ensures) home (subst (λ w. IsHome w home) same.0 h.3),
)

pub returns-in-Err : goal.returns-in-Err
returns-in-Err c =
    text_wrong c.args.line.now c.in-Some-cut_at.last.now c.in-Err.wrong
    (record {
      rest = c.in-Some.rest.now;
      home = c.in-Some-2.home;
      numbered = record { number = c.in-Some.number; numbered = c.in-Some.ensures.0; is_number = c.in-Some.ensures.1 };
      at_home = (c.in-Some-cut_at.word.now, c.in-Some-cut_at.ensures.0, c.in-Some-cut_at.ensures.1, rw c.in-Some-2.is at c.in_ok-home.ensures);
    })
    (rw c.in-Err.is at c.in_ok-text.ensures)
