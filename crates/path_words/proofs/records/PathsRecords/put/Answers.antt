-- Where the path is not put, it is read for the place after it: so its words do not fit.
use Rattle.std.proofs.Common.{arith, rules, refl, sym, length}
use Rattle.semcode_records.proofs.PathLaws.{path_refused, path_read}
use Rattle.semcode_records.proofs.RecordsLaws.{next_places}
use Rattle.path_words.specs.Words.{path_words}
use Rattle.path_words.proofs.Laws.{one_some}
use Rattle.path_words.proofs.PutLaws.{head_many, unfitting}
use Rattle.path_words.proofs.records.PathsRecords.put.Goals as goal

pub returns-in-Some-clause-puts : goal.returns-in-Some-clause-puts
returns-in-Some-clause-puts c =
    let one = one_some _ _ c.in-Some.put.words c.in-Some.ensures.many in
    record { count = sym one.many; few = c.in-Some.ensures.few _ refl; front = λ _. c.in-Some.ensures.puts _ refl }

pub returns-in_err-path-clause-next : goal.returns-in_err-path-clause-next
returns-in_err-path-clause-next c =
    let e = path_refused _ _ _ (sym c.in_err-path.ensures) in
    rw (next_places, e) (search rules)

pub returns-clause-next : goal.returns-clause-next
returns-clause-next c =
    let e = path_read _ _ _ (sym c.in_ok-path.ensures) in
    rw (next_places, e.1)

pub returns-clause-puts : goal.returns-clause-puts
returns-clause-puts c =
    let many = head_many _ _ _ (sym c.in_ok-path.ensures) in
    let a = c.args in
    record {
      count = sym many;
      few = omega arith;
      front = λ fits. absurd (unfitting (path_words a.self.now.header_rev a.self.now.code.now a.at) (length a.words.now) c.in_default.ensures.many
          (omega (arith, many)) (omega (arith, many)));
    }
