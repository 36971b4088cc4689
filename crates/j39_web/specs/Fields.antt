-- The fields of a NAME that a page is told.
use Rattle.j39_address.specs.Name as name
use Rattle.j39_web.specs.declared.fields.NameFields.{NameFields}

abbrev pub fields_in : NameFields → name.NameFields
fields_in f = name.name_fields f.arbitrary f.industry f.system_instance f.system f.reserved f.function
    f.function_instance f.ecu_instance f.manufacturer f.identity
