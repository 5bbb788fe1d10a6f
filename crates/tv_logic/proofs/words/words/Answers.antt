use Rattle.tv_core.proofs.Common.{all_then, some_then, some_first, refused_wires, all_last, refl}
use Rattle.tv_logic.specs.Words.{logic_words_of}
use Rattle.tv_logic.proofs.words.words.Goals as goal

pub returns-in_err-and_word : goal.returns-in_err-and_word
unfolding logic_words_of
returns-in_err-and_word g c =
    refused_wires _ _ _ _ c.from_residual.ensures (some_first _ c.in_err-and_word.ensures.emits)

pub returns-in_err-or_word : goal.returns-in_err-or_word
unfolding logic_words_of
returns-in_err-or_word g c =
    let ors = rw c.set_sum_less.ensures.terms at c.in_err-or_word.ensures.emits in
    refused_wires _ _ _ _ c.from_residual-in_err-or_word.ensures (some_then _ c.in_ok-and_word.ensures.emits (some_first _ ors))

pub returns-in_err-xor_word : goal.returns-in_err-xor_word
unfolding logic_words_of
returns-in_err-xor_word g c =
    let ors = rw c.set_sum_less.ensures.terms at c.in_ok-or_word.ensures.emits in
    let xors = rw (c.set_sum_less-2.ensures.terms, c.of.ensures) at c.in_err-xor_word.ensures.emits in
    refused_wires _ _ _ _ c.from_residual-in_err-xor_word.ensures (some_then _ c.in_ok-and_word.ensures.emits (some_then _ ors (some_first _ xors)))

pub returns-in_err-not_word : goal.returns-in_err-not_word
unfolding logic_words_of
returns-in_err-not_word g c =
    let ors = rw c.set_sum_less.ensures.terms at c.in_ok-or_word.ensures.emits in
    let xors = rw (c.set_sum_less-2.ensures.terms, c.of.ensures) at c.in_ok-xor_word.ensures.emits in
    let nots = rw c.set_complement.ensures.terms at c.in_err-not_word.ensures.emits in
    refused_wires _ _ _ _ c.from_residual-in_err-not_word.ensures (some_then _ c.in_ok-and_word.ensures.emits (some_then _ ors (some_then _ xors
    (some_first _ nots))))

pub returns-clause-emits : goal.returns-clause-emits
unfolding logic_words_of
returns-clause-emits g c =
    let ors = rw c.set_sum_less.ensures.terms at c.in_ok-or_word.ensures.emits in
    let xors = rw (c.set_sum_less-2.ensures.terms, c.of.ensures) at c.in_ok-xor_word.ensures.emits in
    let nots = rw c.set_complement.ensures.terms at c.in_ok-not_word.ensures.emits in
    all_then _ c.in_ok-and_word.ensures.emits (all_then _ ors (all_then _ xors (all_last _ nots refl)))
