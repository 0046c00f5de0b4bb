-- A promise of our form is one equation or several: what a call answers, and what each lent buffer is afterwards, is a definition of what
-- the call was given. No second outcome meets it (`one_answer`). It is applied to writers (`put_once`, LawsFront.antt), and to the calls of
-- crates drom (`read_one`, proofs/Demand1.antt), feed (`open_one`, `feed_one`, `finish_one`, proofs/Demand3.antt) and capi (proofs/OneAnswer.antt).
use mathlib.Core.Path.{◌≡◌, sym, ◌∙◌}

pub one_answer : {A : Type 0} {promised r s : A} → r ≡ promised → s ≡ promised → r ≡ s
one_answer p q = p ∙ sym q
