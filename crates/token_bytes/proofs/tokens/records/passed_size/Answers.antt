-- From the last noted byte on the records are stepped over.
use Rattle.std.proofs.Common.{◌≡◌, ◌∙◌, ◌+◌, ◌-◌, ◌/◌, ◌%◌, ℕ, List, ap, arith, drop, length, length-drop, subst, sym}
use Rattle.token_bytes.specs.Runs.{AreDecoded, run_size}
use Rattle.token_bytes.proofs.RunLemmas.{decoded_past}
use Rattle.token_bytes.proofs.StartLemmas.{Hop, hop, hop_count, size_least}
use Rattle.token_bytes.proofs.TokensLemmas.{first_fits, run_fits, run_least}
use Rattle.token_bytes.proofs.tokens.records.passed_size.Goals as goal

pub overflow_add-behind : goal.overflow_add-behind
overflow_add-behind c =
    let bytes = c.args.stored.now.records in
    let table = c.args.stored.now.texts.texts.items in
    omega (
      arith,
      c.requires.at,
      c.requires.some,
      size_least c.args.before bytes,
      run_least c.args.count table (drop c.args.at bytes) c.requires.decoded,
      length-drop c.args.at bytes,
      ap length c.bytes-bytes.ensures,
      c.bytes-bytes.type_inv,
    )

pub overflow_sub-result : goal.overflow_sub-result
overflow_sub-result c =
    let starts = c.args.stored.now.starts in
    let there : Hop c.args.stored.now.records c.args.at c.args.before c.args.count c.index-start.result.now =
    hop c.args.stored.now.records starts.items c.args.at c.args.before c.args.count c.index-start.result.now c.requires.at c.requires.starts
    (omega (arith, c.if-entry-before.false)) (omega (arith, c.if-len-entry.false, c.len.ensures, starts.ok.0)) c.index-start.ensures in
    omega (arith, there.on.start_is)

pub from-requires-2 : goal.from-requires-2
from-requires-2 c =
    let starts = c.args.stored.now.starts in
    let there : Hop c.args.stored.now.records c.args.at c.args.before c.args.count c.index-start.result.now =
    hop c.args.stored.now.records starts.items c.args.at c.args.before c.args.count c.index-start.result.now c.requires.at c.requires.starts
    (omega (arith, c.if-entry-before.false)) (omega (arith, c.if-len-entry.false, c.len.ensures, starts.ok.0)) c.index-start.ensures in
    let bytes = c.args.stored.now.records in
    let here : List ℕ = drop c.args.at bytes in
    let k : ℕ = hop_count c.args.before c.args.count in
    let most = first_fits k c.args.count c.args.stored.now.texts.texts.items here (omega (arith, there.parts)) c.requires.decoded in
    omega (arith, there.on.start_is, most, length-drop c.args.at bytes, c.requires.some, ap length c.bytes-bytes.ensures)

pub run_size-requires-2 : goal.run_size-requires-2
run_size-requires-2 c =
    let starts = c.args.stored.now.starts in
    let there : Hop c.args.stored.now.records c.args.at c.args.before c.args.count c.index-start.result.now =
    hop c.args.stored.now.records starts.items c.args.at c.args.before c.args.count c.index-start.result.now c.requires.at c.requires.starts
    (omega (arith, c.if-entry-before.false)) (omega (arith, c.if-len-entry.false, c.len.ensures, starts.ok.0)) c.index-start.ensures in
    let bytes = c.args.stored.now.records in
    let table = c.args.stored.now.texts.texts.items in
    let here : List ℕ = drop c.args.at bytes in
    let k : ℕ = hop_count c.args.before c.args.count in
    let r : ℕ = (c.args.before + c.args.count) % 64 in
    let left : AreDecoded r table (drop c.index-start.result.now bytes) =
    subst (λ l. AreDecoded r table l) (sym there.on.behind) (decoded_past k r c.args.count table here there.parts c.requires.decoded) in
    rw (c.as_slice-table.ensures.value, c.from-2.ensures.bytes, c.bytes-bytes.ensures) left

all_passed : (c : goal.After-run_size-2)
    → c.index-start.result.now - c.args.at + c.run_size-2.result ≡ run_size c.args.count (drop c.args.at c.args.stored.now.records)
all_passed c =
    let starts = c.args.stored.now.starts in
    let there : Hop c.args.stored.now.records c.args.at c.args.before c.args.count c.index-start.result.now =
    hop c.args.stored.now.records starts.items c.args.at c.args.before c.args.count c.index-start.result.now c.requires.at c.requires.starts
    (omega (arith, c.if-entry-before.false)) (omega (arith, c.if-len-entry.false, c.len.ensures, starts.ok.0)) c.index-start.ensures in
    let bytes = c.args.stored.now.records in
    let here : List ℕ = drop c.args.at bytes in
    let r : ℕ = (c.args.before + c.args.count) % 64 in
    let left : c.run_size-2.result ≡ run_size r (drop c.index-start.result.now bytes) =
    c.run_size-2.ensures ∙ ap (run_size r) (c.from-2.ensures.bytes ∙ ap (drop c.index-start.result.now) c.bytes-bytes.ensures) in
    ap (λ n. c.index-start.result.now - c.args.at + n) left ∙ there.on.size ∙ ap (λ n. run_size n here) (sym there.parts)

pub overflow_add-result : goal.overflow_add-result
overflow_add-result c =
    let bytes = c.args.stored.now.records in
    let here : List ℕ = drop c.args.at bytes in
    omega (
      arith,
      all_passed c,
      run_fits c.args.count c.args.stored.now.texts.texts.items here c.requires.decoded,
      length-drop c.args.at bytes,
      ap length c.bytes-bytes.ensures,
      c.bytes-bytes.type_inv,
    )

pub returns : goal.returns
returns c = all_passed c
