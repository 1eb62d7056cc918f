mod ScopeLaws
