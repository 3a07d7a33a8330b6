-- Answers to the goals of `form::intervals::lawful`.
use Rattle.pg_interval_2.specs.declared.style.Style.TheVariants.{Iso, Postgres, Verbose, Sql, IsoStrict}
use Rattle.forms.specs.declared.form.Form.TheVariants as form
use Rattle.forms.proofs.Intervals.{intervals}
use Rattle.forms.proofs.Replies.{of_style}
use Rattle.forms.proofs.TextReplies.{spelled_ascii}
use Rattle.forms.proofs.form.intervals.lawful.Goals as goal
use Rattle.std.proofs.Common.{refl}

pub returns-clause-pg_iso : goal.returns-clause-pg_iso
returns-clause-pg_iso c = intervals form.PgIso Iso (of_style form.PgIso Iso refl) (c.text_has_one_list_of_counts.ensures Iso)
    (c.denoted_interval_is_in_range.ensures Iso) (c.written_text_is_read_back.ensures.denotes Iso)
    (spelled_ascii c.texts_are_of_one_alphabet.ensures Iso)

pub returns-clause-postgres : goal.returns-clause-postgres
returns-clause-postgres c = intervals form.Postgres Postgres (of_style form.Postgres Postgres refl)
    (c.text_has_one_list_of_counts.ensures Postgres) (c.denoted_interval_is_in_range.ensures Postgres)
    (c.written_text_is_read_back.ensures.denotes Postgres)
    (spelled_ascii c.texts_are_of_one_alphabet.ensures Postgres)

pub returns-clause-pg_verbose : goal.returns-clause-pg_verbose
returns-clause-pg_verbose c = intervals form.PgVerbose Verbose (of_style form.PgVerbose Verbose refl)
    (c.text_has_one_list_of_counts.ensures Verbose) (c.denoted_interval_is_in_range.ensures Verbose)
    (c.written_text_is_read_back.ensures.denotes Verbose)
    (spelled_ascii c.texts_are_of_one_alphabet.ensures Verbose)

pub returns-clause-pg_sql : goal.returns-clause-pg_sql
returns-clause-pg_sql c = intervals form.PgSql Sql (of_style form.PgSql Sql refl) (c.text_has_one_list_of_counts.ensures Sql)
    (c.denoted_interval_is_in_range.ensures Sql) (c.written_text_is_read_back.ensures.denotes Sql)
    (spelled_ascii c.texts_are_of_one_alphabet.ensures Sql)

pub returns-clause-iso_strict : goal.returns-clause-iso_strict
returns-clause-iso_strict c = intervals form.IsoStrict IsoStrict (of_style form.IsoStrict IsoStrict refl)
    (c.text_has_one_list_of_counts.ensures IsoStrict) (c.denoted_interval_is_in_range.ensures IsoStrict)
    (c.written_text_is_read_back.ensures.denotes IsoStrict)
    (spelled_ascii c.texts_are_of_one_alphabet.ensures IsoStrict)
