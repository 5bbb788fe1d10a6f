use Rattle.tv_core.proofs.Common.{◌≡◌, inl, inr, refl, arith, cases_eq}
use Rattle.tv_parts.proofs.written.result_word.Goals as goal

pub returns-in-18 : goal.returns-in-18
returns-in-18 g c =
    elim (cases_eq c.args.op 18) [ inl e ↦ rw e refl | inr some ↦ let e : c.args.op ≡ 19 = omega arith in rw e refl ]

pub returns-in_default : goal.returns-in_default
returns-in_default g c = rw (c.in-30.is, c.if-found.false) refl

pub returns-in_default-2 : goal.returns-in_default-2
returns-in_default-2 g c =
    elim (cases_eq c.args.op 13) [
      | inl e ↦ rw e refl
      | inr not_13 ↦
          elim (cases_eq c.args.op 14) [
            | inl e ↦ rw e refl
            | inr not_14 ↦
                elim (cases_eq c.args.op 15) [
                  | inl e ↦ rw e refl
                  | inr not_15 ↦
                      elim (cases_eq c.args.op 16) [ inl e ↦ rw e refl | inr not_16 ↦ let e : c.args.op ≡ 17 = omega arith in rw e refl ]
                ]
          ]
    ]
