use Rattle.std.proofs.Common.{◌+◌, ◌∷◌, ◌∙◌, [], ap, map, sym}
use Rattle.std.proofs.lemmas.List.{length-map, map-append}
use Rattle.std.proofs.lemmas.Result.{IfErr-weaker, IfOk-weaker}
use Rattle.csv.specs.Records.{fields_of}
use Rattle.table_records.proofs.FaultFacts.{faults_pass, faults_told}
use Rattle.table_records.proofs.reading.FeedRecordsRecordTaker.take.Goals as goal

pub returns-clause-good : goal.returns-clause-good
returns-clause-good g c =
    let reader = c.args.self.now.reader.now in
    let row = g.R.RecordReader.row_of reader in
    let fields = fields_of c.args.row.now in
    IfOk-weaker c.add.result _ _
    (λ done add start before at makes.
    let here = at ∙ ap (λ n. n + 2) (sym (length-map before row)) in
    let next = add start (map row before) here makes.1 in
    rw (map-append row before (fields ∷ [])) (
      faults_pass g.R.RecordReader.file (g.R.RecordReader.checks reader) (map row before) (row fields) makes.0 next.0,
      next.1,
    ))
    c.add.ensures.good

pub returns-clause-fault : goal.returns-clause-fault
returns-clause-fault g c =
    let reader = c.args.self.now.reader.now in
    let row = g.R.RecordReader.row_of reader in
    let fields = fields_of c.args.row.now in
    IfErr-weaker c.add.result _ _
    (λ e add start before after at makes.
    let here = at ∙ ap (λ n. n + 2) (sym (length-map before row)) in
    let told = add start (map row before) here makes.1 in
    rw (map-append row before (fields ∷ after))
    (faults_told g.R.RecordReader.file (g.R.RecordReader.checks reader) e (map row before) (map row after) (row fields)
    makes.0 told))
    c.add.ensures.fault
