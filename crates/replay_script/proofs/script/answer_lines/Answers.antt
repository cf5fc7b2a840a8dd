use Rattle.std.proofs.Common.{IsTrue, refl, sym, ◌∙◌, [], ◌++◌, subst, ℕ, List}
use Rattle.std.proofs.lemmas.Bool.{false≢true}
use Rattle.std.specs.Io.KnownBytes.{Consumes}
use Rattle.replay_script.proofs.ScriptLemmas.{appends_more, appends_none, consumes_none, far_ends, far_first, far_line, far_origins, not_answered, not_read}
use Rattle.replay_script.proofs.script.answer_lines.Goals as goal
use Rattle.replay_script.proofs.script.answer_lines.Goals.{then-asks_for_origins, else-asks_for_origins+in_default-answer_line}

pub loop-lines-init : goal.loop-lines-init
loop-lines-init g c = (
  c.requires.fresh,
  (
    [],
    far_first (g.G.FragmentGrammar.answer) _ _ _ _ _ _ _ _ _ c.requires.new refl (record { grammar_is = refl; edition_is = refl; dialect_is = refl; depth_is = refl }) c.new-sources.ensures,
    appends_none _,
  ),
)

pub returns-in-Err : goal.returns-in-Err
returns-in-Err g c =
    let at = c.loop-lines.invariant.1 in
    not_read (g.G.FragmentGrammar.answer) _ _ _ _ _ _ _ _ _ _ _ _ _ _ _ _ _ c.in-Err.end at.1 at.2 c.next_line.ensures.read c.in-Err.ensures.line

pub returns-in-Err-answer_line : goal.returns-in-Err-answer_line
returns-in-Err-answer_line g c =
    let at = c.loop-lines.invariant.1 in
    let line = c.as_slice-line.ensures.value in
    let other : IsTrue c.asks_for_origins.result → ⊥ = λ yes. false≢true (sym c.if-asks_for_origins.false ∙ yes) in
    not_answered (g.G.FragmentGrammar.answer) _ _ _ _ _ _ _ _ _ _ _ _ _ _ _ _ _ _ _ _ c.in-Err-answer_line.end at.1 at.2
    (subst (λ (bytes : List ℕ). Consumes (g.R.Read.remaining c.loop-lines.reader) (g.R.Read.remaining c.next_line.new.reader) bytes) (sym line) c.next_line.ensures.read)
    (λ first is. other (c.asks_for_origins.ensures.1 (first, is)))
    c.in-Err-answer_line.ensures.line

pub loop-lines-preserved : goal.loop-lines-preserved
loop-lines-preserved g c =
    let at = c.loop-lines.invariant.1 in
    let line = c.as_slice-line.ensures.value in
    let read = subst (λ (bytes : List ℕ). Consumes (g.R.Read.remaining c.loop-lines.reader) (g.R.Read.remaining c.next_line.new.reader) bytes) (sym line) c.next_line.ensures.read in
    elim c.if-asks_for_origins.branch [
      | then-asks_for_origins w ↦
          let asks = c.asks_for_origins.ensures.0 w.if-asks_for_origins.true in
          rw (w.writer-is, w.session-is, w.sources-is, w.origins-is) (
            c.loop-lines.invariant.0,
            (at.0, far_origins (g.G.FragmentGrammar.answer) _ _ _ _ _ _ _ _ _ _ _ _ _ _ _ at.1 asks.0 read asks.1, at.2),
          )
      | else-asks_for_origins+in_default-answer_line w ↦
          let other : IsTrue c.asks_for_origins.result → ⊥ = λ yes. false≢true (sym w.if-asks_for_origins.false ∙ yes) in
          let more = w.in_default-answer_line.ensures.line in
          rw (w.writer-is, w.session-is, w.sources-is, w.origins-is) (
            w.in_default-answer_line.ensures.fresh,
            (
              at.0 ++ more.0,
              far_line (g.G.FragmentGrammar.answer) _ _ _ _ _ _ _ _ _ _ _ _ _ _ _ _ _ _ at.1 read more.1
                  (λ first is. other (c.asks_for_origins.ensures.1 (first, is))),
              appends_more _ _ _ _ _ at.2 more.2,
            ),
          )
    ]

pub returns : goal.returns
returns g c =
    let at = c.loop-lines.invariant.1 in
    far_ends (g.G.FragmentGrammar.answer) _ _ _ _ _ _ _ _ _ _ _ _ _ _ _ at.0 [] _ at.1 (consumes_none _) at.2 tt tt
