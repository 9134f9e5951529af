-- What the code holds, as the definitions have it: names as their numbers, a line, a heading, and what was read.
use Rattle.std.specs.Prelude.{ℕ, Option, Some, None, Result, Ok, Err}
use Rattle.job.specs.Lines as line
use Rattle.job.specs.Job as job
use Rattle.job.specs.declared.Name.{Name}
use Rattle.job.specs.declared.Name.TheVariants.{Job, Entry, Node, Binding}
use Rattle.job.specs.declared.Line.{Line}
use Rattle.job.specs.declared.Taken.{Taken}
use Rattle.job.specs.declared.Heading.{Heading}
use Rattle.job.specs.declared.BadLine.{BadLine}

-- the number of a name; 4 for none
abbrev pub name_number : Name → ℕ
name_number Job = 0
name_number Entry = 1
name_number Node = 2
name_number Binding = 3

abbrev pub named : Option Name → ℕ
named (Some k) = name_number k
named None = 4

-- a line, with the place after it
abbrev pub line_taken : Option Line → ℕ → line.Taken
line_taken (Some x) next =
    record { name = name_number x.name; count = x.numbers.count; at = x.numbers.at; high = x.high; next = next }
line_taken None next = line.no_line next

abbrev pub taken_of : Taken → line.Taken
taken_of t = line_taken t.line t.next

-- how far the order has come, by the name of the last line
abbrev pub section_of : Option Name → ℕ
section_of None = 0
section_of (Some Job) = 1
section_of (Some Entry) = 1
section_of (Some Node) = 2
section_of (Some Binding) = 3

abbrev pub heading_of : Heading → job.Heading
heading_of h =
    record {
      section = section_of h.last;
      entries = h.entries;
      nodes = h.nodes;
      variable = h.variable;
      units = h.units;
      start = h.start;
      subject = h.subject;
      room = h.room;
    }

-- a job's heading, or the number of the first bad line
abbrev pub parsed : Result Heading BadLine → job.Parsed
parsed (Ok h) = job.Read (heading_of h)
parsed (Err b) = job.Bad b.0
