-- `Session::end_line` meets its contract: the line's bytes are answered, and the answer is put as a line. Assumes nothing.
use native.Mathlib.Omega.{arith}
use Rattle.session.specs.Session.{session_of}
use Rattle.session.proofs.Answering.{written-fits, written-short, written_count, printed-length}
use Rattle.session.proofs.Session.end_line.Goals as goal

pub slice_bounds-answer-end : goal.slice_bounds-answer-end
slice_bounds-answer-end c = written-fits (session_of c.args.self.now c.args.store.now) c.answer_line-n.ensures.value c.answer_line-n.ensures.answer_after c.answer_line-n.auto.answer

pub slice_bounds-put_line-end : goal.slice_bounds-put_line-end
slice_bounds-put_line-end c = written_count (session_of c.args.self.now c.args.store.now) c.answer_line-n.ensures.value c.answer_line-n.ensures.answer_after c.answer_line-n.auto.answer

pub overflow_add-result : goal.overflow_add-result
overflow_add-result c = omega (arith, written-short (session_of c.args.self.now c.args.store.now) c.answer_line-n.ensures.value c.answer_line-n.ensures.answer_after c.answer_line-n.auto.answer)

pub overflow_add-result-2 : goal.overflow_add-result-2
overflow_add-result-2 c = omega (arith, written-short (session_of c.args.self.now c.args.store.now) c.answer_line-n.ensures.value c.answer_line-n.ensures.answer_after c.answer_line-n.auto.answer)

pub returns-clause-value : goal.returns-clause-value
returns-clause-value c = printed-length (session_of c.args.self.now c.args.store.now) c.answer_line-n.ensures.value c.answer_line-n.ensures.answer_after c.answer_line-n.auto.answer

pub returns-clause-written_le_answer_room : goal.returns-clause-written_le_answer_room
returns-clause-written_le_answer_room c = omega (arith, written-short (session_of c.args.self.now c.args.store.now) c.answer_line-n.ensures.value c.answer_line-n.ensures.answer_after c.answer_line-n.auto.answer)
