-- What the records of the code mean.
use Rattle.rows.specs.Rows.{held}
use Rattle.book.specs.declared.form.Form.{Form as Stored}
use Rattle.book.specs.Rules.{Form}

abbrev pub form_of : Stored → Form
form_of f = record { letter = f.letter; names = held f.names }
